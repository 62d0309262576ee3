pub mod Drawings
pub mod Making
pub mod Shelves
pub mod WordLemmas
