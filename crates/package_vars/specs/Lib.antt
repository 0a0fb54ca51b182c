pub mod BuildVariables
pub mod Steps
pub mod VariableLaws
