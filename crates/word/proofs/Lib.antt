pub mod Linearity
pub mod Distance
pub mod Sending
pub mod Computes
pub mod Testing
pub mod Tables
