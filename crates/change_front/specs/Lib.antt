pub mod Refusals
pub mod RefusalTexts
pub mod Locks
pub mod Reading
pub mod Judging
pub mod Fronts
pub mod Turns
