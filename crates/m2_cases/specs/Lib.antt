pub mod Filled
pub mod Samples
