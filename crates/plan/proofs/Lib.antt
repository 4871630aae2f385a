pub mod Heads
pub mod Unique
pub mod Back
pub mod Front
pub mod Answered
pub mod Counted
mod MappedErrors
