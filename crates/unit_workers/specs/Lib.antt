pub mod Jobs
pub mod Starts
pub mod Ends
