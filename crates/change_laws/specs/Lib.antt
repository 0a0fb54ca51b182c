pub mod Fits
pub mod SoundRuns
pub mod Rests
pub mod RestLaws
pub mod BeginLaws
