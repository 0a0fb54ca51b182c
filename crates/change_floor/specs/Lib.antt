pub mod Floors
pub mod Decisions
pub mod Machine
pub mod FloorLaws
pub mod Queues
pub mod Keeping
