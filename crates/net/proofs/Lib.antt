pub mod Apart
pub mod Joined
pub mod Rings
pub mod Linking
pub mod Waking
pub mod Piling
