pub mod Sources
pub mod Clash
pub mod Verdicts
pub mod Near
pub mod Fitting
