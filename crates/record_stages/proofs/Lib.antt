pub mod StageLaws
pub mod ListCode
pub mod ListLaws
pub mod HeadLaws
