pub mod PackageJobs
pub mod Courses
pub mod Abreast
pub mod Stops
pub mod CourseLaws
pub mod Hearing
