pub mod Tracks
pub mod Surveys
pub mod Swims
pub mod Examples
