pub mod Changes
pub mod Dump
pub mod Made
pub mod Survey
pub mod Table
