pub mod Forests
pub mod Trails
pub mod Views
pub mod Rewinding
pub mod Moves
