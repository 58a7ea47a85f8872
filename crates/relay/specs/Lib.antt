pub mod Places
pub mod Hands
pub mod Ends
