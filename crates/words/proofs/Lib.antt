pub mod Numerals
pub mod SpelledNumber
pub mod LongestFront
pub mod OneReading
pub mod ReadSoFar
