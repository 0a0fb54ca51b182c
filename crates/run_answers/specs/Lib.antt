pub mod Statuses
pub mod Stops
pub mod Ends
pub mod Deliveries
pub mod Opening
