pub mod Dumps
pub mod Failures
pub mod Outcomes
pub mod Runs
