pub mod Fed
pub mod Restricted
pub mod Judged
