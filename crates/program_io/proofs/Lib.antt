-- what a writer has received
pub mod Received
mod ErrorLines
-- texts with escapes
pub mod Escaping
-- what a status says of an outcome
pub mod Outcomes
