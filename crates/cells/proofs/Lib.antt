pub mod Growth
pub mod Holdings
pub mod MissingNumbers
pub mod OneAnswer
