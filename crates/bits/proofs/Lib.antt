pub mod Xor
pub mod Numbers
pub mod Linear
pub mod FieldLaws
pub mod RowLaws
pub mod WordLaws
pub mod SignedLaws
pub mod Stores
