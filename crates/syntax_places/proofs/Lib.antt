pub mod Leading
pub mod Endings
pub mod Controls
pub mod TooDeep
pub mod Walked
pub mod Depths
