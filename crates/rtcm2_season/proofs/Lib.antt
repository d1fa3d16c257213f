pub mod RowLaws
pub mod ReportLaws
pub mod Back
