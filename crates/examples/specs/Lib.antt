-- the bytes of a token
pub mod Bytes
-- several outputs, one after another
pub mod Outputs
-- where the errors are in the text of the settings
pub mod ErrorRanges
-- the two parts: what each prints as, which of two values is that of a part, and when two are one
pub mod Parts
