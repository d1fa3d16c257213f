pub mod Moving
pub mod Journals
