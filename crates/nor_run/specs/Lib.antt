pub mod Causes
pub mod Running
pub mod Scripts
pub mod Started
pub mod Steps
pub mod Taking
