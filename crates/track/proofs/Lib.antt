pub mod Applying
pub mod Keeping
