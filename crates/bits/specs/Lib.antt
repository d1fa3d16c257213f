pub mod Bits
pub mod Fields
pub mod Rows
pub mod Signed
