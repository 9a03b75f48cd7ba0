-- What the contracts of this crate cite, and lemmas.
-- constants of the header
pub mod Constants
-- style marks in band, and their writer
pub mod StyleMarkBytes
pub mod StyleMarkWriters
-- what a caller states of lines, and files
pub mod StatedLines
pub mod SourceTexts
pub mod SourceModel
-- what the structs of C are converted to, which of their values are valid, and what a call leaves
pub mod Converted
pub mod Forms
pub mod Validity
pub mod ValidParts
pub mod Results
-- statuses, and their texts
pub mod Statuses
pub mod StatusTexts
-- the output of the structs, what it means, and what the call does
pub mod Meaning
pub mod EmitCalls
-- the style sheet of HTML elements
pub mod StyleSheets
-- positions and edits, for editors
pub mod EditorArguments
pub mod PositionCalls
pub mod EditCalls
pub mod RenderedStreams
-- lemmas, which a reader may skip
pub mod Lemmas
