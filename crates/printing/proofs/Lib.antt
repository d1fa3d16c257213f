pub mod StoreLaws
pub mod DigitLaws
pub mod PutLaws
