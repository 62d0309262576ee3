pub mod Calls
pub mod Fields
pub mod Files
pub mod Memory
pub mod Puts
