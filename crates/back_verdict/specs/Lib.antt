pub mod Backs
pub mod BackLaws
pub mod Searches
