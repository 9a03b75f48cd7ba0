-- Severities as the protocol has them.
use Rattle.std.specs.Prelude.{ℕ}
use Rattle.codespan_base.specs.declared.diagnostic.Severity.{Severity}
use Rattle.codespan_base.specs.declared.diagnostic.Severity.TheVariants.{Help, Note, Warning, Error}
use Rattle.codespan_base.specs.declared.diagnostic.Severity.TheVariants.{Bug}
use Rattle.codespan_lsp.specs.declared.severity.DiagnosticSeverity.{DiagnosticSeverity}
use Rattle.codespan_lsp.specs.declared.severity.DiagnosticSeverity.TheVariants as lsp

-- the protocol's severity
abbrev pub lsp_severity : Severity → DiagnosticSeverity
lsp_severity Bug = lsp.Error
lsp_severity Error = lsp.Error
lsp_severity Warning = lsp.Warning
lsp_severity Note = lsp.Information
lsp_severity Help = lsp.Hint

-- the protocol's number of its severity
abbrev pub severity_number : DiagnosticSeverity → ℕ
severity_number lsp.Error = 1
severity_number lsp.Warning = 2
severity_number lsp.Information = 3
severity_number lsp.Hint = 4
