pub mod Events
pub mod Flights
pub mod Fronts
pub mod Heads
pub mod Kept
pub mod PlainScopes
