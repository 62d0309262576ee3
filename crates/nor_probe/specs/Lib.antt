pub mod Asking
pub mod Found
pub mod Probed
pub mod Tables
pub mod WellWired
