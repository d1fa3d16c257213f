pub mod Records
pub mod Report
pub mod Steps
pub mod Run
pub mod Damage
