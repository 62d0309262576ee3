pub mod Banks
pub mod Runs
pub mod Scripts
pub mod Sums
pub mod Tallies
pub mod Texts
