-- lanes of multi-line labels
pub mod Bars
pub mod Cursor
pub mod LineBottoms
pub mod LineEnds
pub mod LineLemmas
pub mod LineRows
pub mod DrawnRuns
pub mod LineRuns
pub mod MarkSearch
pub mod Shown
pub mod Ranges
pub mod UnderlineRows
pub mod FittedLanes
