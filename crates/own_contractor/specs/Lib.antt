pub mod AtMosts
pub mod Orders
pub mod Keeping
