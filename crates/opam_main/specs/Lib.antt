pub mod Commands
pub mod Folders
pub mod Loose
pub mod Start
