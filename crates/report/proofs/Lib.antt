pub mod CommaSeparated
pub mod Hexadecimal
pub mod WholeRuns
