pub mod Outputs
pub mod Outcome
pub mod TextFaults
pub mod Earliest
pub mod Objects
pub mod Merging
