pub mod Reports
pub mod Queries
