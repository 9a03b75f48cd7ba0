-- which message trails, and which hang
pub mod Hanging
pub mod TrailOrHang
pub mod Pieces
pub mod Pass
pub mod Rightmost
pub mod TrailingLabel
