pub mod Cuts
pub mod Ends
pub mod Insides
pub mod Makings
pub mod Narrower
pub mod Orders
pub mod Tables
pub mod Trajectories
