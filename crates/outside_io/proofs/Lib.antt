pub mod HostEffects
pub mod LeastFates
pub mod SinkEffects
pub mod Tellings
pub mod Tells
pub mod Well
