mod Doing
mod Ending
mod Faring
mod Finishing
mod OneCode
pub mod OneOutcome
mod Saying
pub mod Rears
