pub mod Anding
pub mod Within
