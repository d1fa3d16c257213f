pub mod Issues
pub mod Corrections
