pub mod Products
pub mod Readings
pub mod LimitLaws
pub mod AnswerLaws
pub mod GeneralLaws
