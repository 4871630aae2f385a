pub mod Feeding
pub mod Judging
pub mod Answering
