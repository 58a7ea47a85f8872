mod FilesLemmas
mod LeftLemmas
mod Loops
