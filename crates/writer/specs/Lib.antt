pub mod Sending
pub mod Answer
pub mod OneFrame
pub mod Streams
pub mod Worked
