pub mod Texts
pub mod Tables
pub mod Names
pub mod Items
pub mod Counts
pub mod Refusals
pub mod Tokens
