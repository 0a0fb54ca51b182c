pub mod OpamPaths
pub mod Repository
