pub mod Banks
pub mod Bars
pub mod Chips
pub mod Fits
pub mod Sizes
pub mod Words
