pub mod Drawn
pub mod Endings
pub mod Ends
pub mod Options
pub mod Stops
pub mod Text
pub mod Words
