pub mod Rows
pub mod Reports
