pub mod Rows
pub mod Cells
pub mod Rule
pub mod Plays
pub mod Looks
pub mod Opening
pub mod Seats
