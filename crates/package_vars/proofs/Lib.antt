pub mod Tables
pub mod ScopeLaw
