pub mod Axes
pub mod Confined
pub mod Machine
pub mod Rings
pub mod Wholes
