pub mod Apart
pub mod Parting
