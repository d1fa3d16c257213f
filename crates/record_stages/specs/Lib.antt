pub mod Stages
pub mod Lists
