pub mod Map
pub mod Regions
