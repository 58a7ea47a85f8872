pub mod Places
pub mod Crossing
pub mod Rooms
pub mod Openings
pub mod Turning
pub mod Endings
