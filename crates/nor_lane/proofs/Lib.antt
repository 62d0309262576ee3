pub mod Geometries
pub mod Padding
pub mod Places
