pub mod Units
pub mod Outputs
pub mod Starts
