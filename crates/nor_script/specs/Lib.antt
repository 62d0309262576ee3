pub mod Answering
pub mod Grammar
pub mod Laws
pub mod Numbers
pub mod Script
pub mod Racing
pub mod Report
