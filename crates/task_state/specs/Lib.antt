pub mod Blocks
pub mod Collecting
pub mod Outputs
pub mod Progress
pub mod Steps
pub mod Units
