pub mod Editions
pub mod Observations
pub mod Meanings
