-- code units
pub mod Units
-- positions and ranges
pub mod Positions
pub mod Ranges
-- laws of positions
pub mod PositionLaws
-- diagnostics
pub mod Severities
pub mod Messages
pub mod LspDiagnostics
