pub mod UnitOutputs
pub mod Frames
pub mod Starting
