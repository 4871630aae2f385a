pub mod CellLists
pub mod Layout
pub mod Contents
pub mod Kinds
