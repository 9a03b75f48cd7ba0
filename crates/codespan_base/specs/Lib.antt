-- re-exports: diagnostics and files
pub use Rattle.codespan_core.specs.Diagnostics
pub use Rattle.codespan_core.specs.Lines
pub use Rattle.codespan_core.specs.LineStarts
pub use Rattle.codespan_core.specs.FileModel
pub use Rattle.codespan_core.specs.LawfulFiles
pub use Rattle.codespan_core.specs.SimpleModel
pub use Rattle.codespan_core.specs.ErrorText
pub use Rattle.codespan_core.specs.Errors
pub use Rattle.codespan_core.specs.SimpleFileViews
pub mod Lemmas
-- the file database of one file whose line numbers can be set
pub mod MappedModel
pub mod SetLineNumbers
pub mod MappedFileViews
-- the file database of many files
pub mod SimpleFilesViews
-- laws of files, and what the clauses of `worked` unfold
pub mod FileLaws
pub mod FileDefinitions
-- re-exports: the configuration, labels, and the writers of plain text
pub use Rattle.codespan_core.specs.SnippetStarts
pub use Rattle.codespan_core.specs.Characters
pub use Rattle.codespan_core.specs.Defaults
pub use Rattle.codespan_core.specs.ConfigEquality
pub use Rattle.codespan_core.specs.Labels
pub use Rattle.codespan_core.specs.Streams
pub use Rattle.codespan_core.specs.WriterLaw
pub use Rattle.codespan_core.specs.Writers
-- the styles of the parts of the output
pub mod PartStyles
-- how style marks are spelled
pub mod StyleSpellings
pub mod Ansi
-- the writers of colors and styles
pub mod StyleWriters
