-- outputs, rendered part by part
pub mod Emitted
pub mod HeaderRuns
pub mod NoteRows
pub mod OutputLoci
pub mod RendererRuns
pub mod Renderings
pub mod RichParts
pub mod SnippetsRendered
