pub mod LayoutLaws
pub mod StagedLaws
