pub mod Sizes
pub mod Rows
pub mod Tables
pub mod Corrections
pub mod Observations
pub mod Generals
