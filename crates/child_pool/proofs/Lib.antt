pub mod Drains
pub mod Fates
pub mod Fits
pub mod Promises
