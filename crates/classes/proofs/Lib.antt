pub mod Times
pub mod Counting
pub mod Ways
pub mod ForestsChange
pub mod LabelLaws
pub mod UndoingLinks
pub mod Changes
