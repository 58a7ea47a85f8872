pub mod Outputs
pub mod UnitObject
pub mod Texts
pub mod Outcome
