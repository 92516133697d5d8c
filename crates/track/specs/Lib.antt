pub mod Histories
pub mod Limits
pub mod Refusals
pub mod Standings
