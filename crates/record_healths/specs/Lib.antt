pub mod Conditions
pub mod Healths
