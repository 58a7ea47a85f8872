pub mod Growing
pub mod Measures
pub mod Parts
