pub mod Generals
pub mod GeneralRounds
pub mod GeneralNulls
