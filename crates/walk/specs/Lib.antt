pub mod Progress
pub mod Stands
pub mod Order
pub mod Rows
