pub mod Following
pub mod Laying
pub mod Mapping
pub mod Sizes
pub mod Stepping
