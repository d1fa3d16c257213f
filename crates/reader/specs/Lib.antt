pub mod Cells
pub mod Five
pub mod Hunting
pub mod Reading
pub mod Rows
pub mod Taking
