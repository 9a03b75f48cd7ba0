-- lines, and what is looked up in them
pub mod FileLines
pub mod Lookups
pub mod Searches
-- which argument is invalid, and which parts are valid
pub mod FirstInvalid
pub mod Parts
-- files
pub mod Views
-- what is rendered
pub mod Rendered
pub mod LookupsFound
-- what the call does
pub mod Emitted
pub mod StyleSheets
