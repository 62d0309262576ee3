pub mod Counting
pub mod Driving
pub mod Mapped
pub mod OneMore
pub mod Sizes
pub mod Words
