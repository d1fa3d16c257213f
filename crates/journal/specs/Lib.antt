pub mod Bytes
pub mod Forms
pub mod Journal
pub mod Words
