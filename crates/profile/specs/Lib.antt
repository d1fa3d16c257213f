pub mod Profile
pub mod Cutting
pub mod Arms
