pub mod Header
pub mod Frames
pub mod Widths
pub mod Layout
pub mod Answer
