pub mod Named
pub mod Types
pub mod Loads
