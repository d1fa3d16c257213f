pub mod StateLaws
pub mod HeaderLaws
pub mod WidthLaws
pub mod FrameLaws
