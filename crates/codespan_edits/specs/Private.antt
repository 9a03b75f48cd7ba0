-- definitions that only contracts of this crate cite
pub mod Places
pub mod Differs
pub mod Blocks
pub mod Hunks
