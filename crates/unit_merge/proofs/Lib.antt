mod Cases
mod Earliest
mod Keys
mod Merges
pub mod NoKey
mod Numbers
mod Parts
mod TextFaults
