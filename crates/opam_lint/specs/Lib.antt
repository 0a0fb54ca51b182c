pub mod KnownFields
pub mod EmptyCommands
pub mod Findings
pub mod Linted
pub mod FindingTexts
pub mod LintLaws
