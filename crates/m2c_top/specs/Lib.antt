pub mod Effects
pub mod Ending
pub mod Statuses
