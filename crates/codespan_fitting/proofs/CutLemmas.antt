-- cuts of pieces
pub mod MovedIndices
pub mod Search
pub mod PieceCuts
pub mod PieceUnits
pub mod ShownTexts
pub mod GapSteps
