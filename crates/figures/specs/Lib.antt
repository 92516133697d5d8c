pub mod Idles
pub mod Values
pub mod Keeping
