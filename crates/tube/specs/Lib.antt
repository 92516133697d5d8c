pub mod Faults
pub mod Spans
pub mod Tubes
pub mod Intervals
