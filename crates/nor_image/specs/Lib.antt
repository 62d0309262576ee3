pub mod Image
pub mod Loaded
pub mod Reading
pub mod Written
pub mod Writing
