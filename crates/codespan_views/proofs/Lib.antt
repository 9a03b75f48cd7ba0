-- lemmas by subject
pub mod Annotations
pub mod Labels
pub mod Files
pub mod Lines
pub mod Errors
pub mod Outputs
