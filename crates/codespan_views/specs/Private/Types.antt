-- The Rust types that definitions name.
pub use Rattle.codespan_views.specs.declared.annotation.Annotation.{Annotation as RustAnnotation}
pub use Rattle.codespan_views.specs.declared.collected.Collected.{Collected}
pub use Rattle.codespan_views.specs.declared.labeled_files.LabeledFile.{LabeledFile as RustFile}
pub use Rattle.codespan_views.specs.declared.labeled_files.LeastStarts.{LeastStarts}
pub use Rattle.codespan_views.specs.declared.label_span.LabelSpan.{LabelSpan}
