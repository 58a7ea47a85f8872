pub mod Seen
pub mod Flying
pub mod SeatScopes
