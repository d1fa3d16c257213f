pub mod Rows
pub mod Gathering
pub mod Season
pub mod Journals
pub mod Reports
pub mod Tables
pub mod Running
