pub mod Chunks
pub mod Clashes
pub mod Owning
pub mod OwningLaws
pub mod Searching
