pub mod Missing
pub mod Certified
pub mod Determined
pub mod Promised
