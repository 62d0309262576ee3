pub mod Drill
pub mod Drilled
pub mod Making
pub mod Summary
