pub mod Answered
pub mod Fields
pub mod Reading
pub mod Putting
pub mod Callers
