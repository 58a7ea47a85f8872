mod TextBytes
mod TextFits
mod Steps
