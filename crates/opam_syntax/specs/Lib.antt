pub mod Spelling
pub mod Printed
pub mod Rows
pub mod Reading
