pub mod Values
pub mod Answer
pub mod GeneralValues
pub mod GeneralAnswer
