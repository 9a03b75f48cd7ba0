-- The Rust types that definitions name, and their variants.
pub use Rattle.codespan_core.specs.declared.diagnostic.Diagnostic.{Diagnostic}
pub use Rattle.codespan_core.specs.declared.diagnostic.Label.{Label}
pub use Rattle.codespan_core.specs.declared.diagnostic.LabelStyle.{LabelStyle}
pub use Rattle.codespan_core.specs.declared.diagnostic.LabelStyle.TheVariants.{Primary, Secondary}
pub use Rattle.codespan_core.specs.declared.diagnostic.Severity.{Severity}
pub use Rattle.codespan_core.specs.declared.files.Error.{Error}
pub use Rattle.codespan_core.specs.declared.files.Error.TheVariants.{FormatError, LineTooLarge}
pub use Rattle.codespan_core.specs.declared.files.Error.TheVariants.{OutOfMemory}
pub use Rattle.codespan_core.specs.declared.files.Location.{Location}
pub use Rattle.codespan_core.specs.declared.term.config.chars.Chars.{Chars}
pub use Rattle.codespan_core.specs.declared.term.config.Config.{Config}
pub use Rattle.codespan_core.specs.declared.term.config.DisplayStyle.{DisplayStyle}
pub use Rattle.codespan_core.specs.declared.term.config.DisplayStyle.TheVariants.{Medium, Rich}
pub use Rattle.codespan_core.specs.declared.term.config.DisplayStyle.TheVariants.{Short}
pub use Rattle.codespan_core.specs.declared.term.config.Layout.{Layout}
pub use Rattle.codespan_core.specs.declared.term.config.Layout.TheVariants.{Classic, Unbroken}
pub use Rattle.codespan_output.specs.declared.char_metrics.Metrics.{Metrics}
