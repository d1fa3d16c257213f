pub mod MoveLaws
pub mod RunLaws
pub mod PieceLaws
pub mod JournalLaws
pub mod BackLaws
