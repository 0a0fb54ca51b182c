mod Delivered
pub mod Openings
