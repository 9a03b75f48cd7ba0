use Rattle.codespan_core.proofs.Std.{map, refl}
use Rattle.codespan_suggestions.specs.declared.suggestion.Applicability.TheVariants.{Unspecified}
use Rattle.report.specs.ScriptLines.{script_line_view}
use Rattle.report.specs.Suggestions.{parsed_edit}
use Rattle.report.proofs.AppliedSources.{suggestion_viewed}
use Rattle.report.proofs.script.suggestions.parsed_suggestion.Goals as goal

pub returns-clause-suggestion : goal.returns-clause-suggestion
returns-clause-suggestion c =
    suggestion_viewed (record {
      message = c.in_ok-from_str.field-0;
      applicability = Unspecified;
      edits = c.in_ok-edits.edits;
    }) c.args.message.now (map parsed_edit (map script_line_view c.args.lines.now))
    c.in_ok-from_str.ensures.ok refl c.in_ok-edits.ensures
