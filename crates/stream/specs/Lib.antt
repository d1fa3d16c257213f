pub mod Standing
pub mod Verdict
pub mod Places
pub mod Faults
pub mod Joining
