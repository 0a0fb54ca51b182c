pub mod JobTexts
pub mod NameLists
pub mod Faultless
pub mod Splits
