pub mod Calling
pub mod Causing
pub mod FileSizes
pub mod Growing
pub mod JustLoaded
pub mod Reporting
pub mod Taking
