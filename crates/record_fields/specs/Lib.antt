pub mod Packing
pub mod Coding
pub mod Satellites
pub mod Tables
pub mod Narrow
