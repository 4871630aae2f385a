pub mod Items
pub mod Refusals
pub mod Reading
pub mod Answers
pub mod Openings
pub mod Steps
pub mod Tallies
