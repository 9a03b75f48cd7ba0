-- diagnostics
pub mod Diagnostics
-- files
pub mod Lines
pub mod LineStarts
pub mod FileModel
pub mod LawfulFiles
pub mod SimpleModel
pub mod ErrorText
pub mod Errors
pub mod SimpleFileViews
pub mod Lemmas
-- the configuration: characters, defaults and equality
pub mod SnippetStarts
pub mod Characters
pub mod Defaults
pub mod ConfigEquality
-- labels
pub mod Labels
-- writers
pub mod Streams
pub mod WriterLaw
pub mod Writers
-- all of their names
unfoldable pub use Rattle.codespan_core.specs.Diagnostics.*
unfoldable pub use Rattle.codespan_core.specs.Lines.*
unfoldable pub use Rattle.codespan_core.specs.LineStarts.*
unfoldable pub use Rattle.codespan_core.specs.FileModel.*
unfoldable pub use Rattle.codespan_core.specs.LawfulFiles.*
unfoldable pub use Rattle.codespan_core.specs.SimpleModel.*
unfoldable pub use Rattle.codespan_core.specs.ErrorText.*
unfoldable pub use Rattle.codespan_core.specs.Errors.*
unfoldable pub use Rattle.codespan_core.specs.SimpleFileViews.*
unfoldable pub use Rattle.codespan_core.specs.SnippetStarts.*
unfoldable pub use Rattle.codespan_core.specs.Characters.*
unfoldable pub use Rattle.codespan_core.specs.Defaults.*
unfoldable pub use Rattle.codespan_core.specs.ConfigEquality.*
unfoldable pub use Rattle.codespan_core.specs.Labels.*
unfoldable pub use Rattle.codespan_core.specs.Streams.*
unfoldable pub use Rattle.codespan_core.specs.WriterLaw.*
unfoldable pub use Rattle.codespan_core.specs.Writers.*
