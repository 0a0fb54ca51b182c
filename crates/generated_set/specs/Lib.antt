pub mod Devices
pub mod Drawing
pub mod Texts
