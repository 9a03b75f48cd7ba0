-- the cells of a line, and what has to be shown of it
pub mod Fitting
-- the parts of a text
pub mod Parts
-- the gaps of a line, and what is left out of them
pub mod Gaps
-- the characters and units of a text
pub mod Walks
-- where the units of a text begin and end
pub mod Units
-- what is left out of a gap, in bytes
pub mod LeftOut
-- the cuts of a text
pub mod Cuts
-- a line and the one that is shown in its place
pub mod Lines
