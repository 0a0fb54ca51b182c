pub mod Arguments
pub mod Commands
pub mod Laws
pub mod Readings
pub mod Tables
pub mod Texts
