pub mod Accepted
pub mod Firsts
