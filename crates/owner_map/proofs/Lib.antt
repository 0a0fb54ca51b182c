mod Aparts
mod Chunking
mod Finding
mod Finds
mod Gathering
mod Keeping
mod Splitting
mod Texts
