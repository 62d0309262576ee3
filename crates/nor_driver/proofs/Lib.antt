pub mod Afters
pub mod Calls
pub mod Cuts
pub mod Going
pub mod Owning
pub mod Refusing
pub mod Replies
pub mod Turns
