pub mod Places
pub mod Mending
pub mod Turned
