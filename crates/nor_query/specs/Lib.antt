pub mod Checks
pub mod Derived
pub mod Fields
pub mod Stands
pub mod Valid
pub mod Writing
