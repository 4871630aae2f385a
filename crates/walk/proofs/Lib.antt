pub mod Members
pub mod Colors
pub mod Moves
pub mod Orders
pub mod Ends
pub mod Rows
