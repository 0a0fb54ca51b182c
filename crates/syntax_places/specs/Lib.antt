pub mod Beginnings
pub mod Followed
pub mod Steps
pub mod Controls
pub mod Depths
pub mod Faults
pub mod HeightsSeen
