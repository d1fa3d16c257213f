pub mod TextLaws
pub mod ListingLaws
pub mod LinesLaws
pub mod CallLaws
pub mod Lengths
