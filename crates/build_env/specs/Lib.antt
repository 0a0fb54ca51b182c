pub mod JobNames
pub mod Environments
pub mod Jobs
pub mod JobLaws
pub mod Seen
