-- what a writer has received
pub mod Output
-- the error of a run, and its status
pub mod RunErrors
-- the fields of a line
pub mod Fields
-- the names of display styles and severities
pub mod Names
-- texts with escapes
pub mod Escapes
