pub mod Outcomes
pub mod Tokens
