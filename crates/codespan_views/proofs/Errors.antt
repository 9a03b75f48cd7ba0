-- which lookup fails first
pub mod Early
pub mod Emit
pub mod First
pub mod LookupRuns
