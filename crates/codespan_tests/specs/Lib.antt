-- file databases that are made for tests
mod Listings
pub mod LongestFiles
