pub mod Laws
pub mod Words
pub mod Parts
pub mod Records
pub mod Reading
pub mod SlotReading
pub mod Slots
