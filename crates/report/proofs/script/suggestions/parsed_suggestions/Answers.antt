use Rattle.codespan_core.proofs.Std.{◌≡◌, ◌+◌, ◌++◌, None, ap, arith, bytes_eq, codes}
use Rattle.codespan_core.proofs.Std.{drop}
use Rattle.codespan_core.proofs.Std.{◌-◌, length, length-drop, map, subst, sym, take, take_all}
use Rattle.codespan_core.proofs.Std.{◌∙◌}
use Rattle.codespan_suggestions.specs.Views.{suggestion_view}
use Rattle.report.specs.ScriptLines.{rest_of, script_line_view}
use Rattle.report.specs.Suggestions.{edit_lines, edits_fault, parsed_suggestion, parsed_suggestions}
use Rattle.report.proofs.AppliedSources.{no_suggestion, no_suggestion_fault, suggestion_added}
use Rattle.report.proofs.AppliedSources.{suggestion_fine}
use Rattle.report.proofs.script.suggestions.parsed_suggestions.Goals.{then-eq+in_ok-edit_lines+in_ok-parsed_suggestion+in_ok-push}
use Rattle.report.proofs.script.suggestions.parsed_suggestions.Goals.{else-eq}
use Rattle.report.proofs.script.suggestions.parsed_suggestions.Goals as goal

pub loop-i-preserved : goal.loop-i-preserved
loop-i-preserved c =
    let source = c.args.source.now in
    let lines = c.args.lines.now in
    let i = c.loop-i.i in
    let line = c.index-lines-i.result in
    let later = map script_line_view (drop (i + 1) lines) in
    let whole : take (length lines - (i + 1)) (drop (i + 1) lines) ≡ drop (i + 1) lines =
    take_all (length lines - (i + 1)) (drop (i + 1) lines)
    (omega (arith, length-drop (i + 1) lines)) in
    let word = ap (λ w. bytes_eq w (codes "suggestion")) (sym c.word.ensures.word)
    ∙ sym c.eq.ensures in
    elim c.if-eq.branch [
      | then-eq+in_ok-edit_lines+in_ok-parsed_suggestion+in_ok-push w ↦
          let same = word ∙ w.if-eq.true in
          let found = ap (map script_line_view) w.deref.ensures.value
          ∙ w.in_ok-edit_lines.ensures
          ∙ ap (λ ls. edit_lines (map script_line_view ls)) whole in
          record {
            within = omega (arith, c.loop-i-test.true);
            read = suggestion_added source lines i line c.loop-i-test.true c.index-lines-i.is
                c.loop-i.suggestions.items c.if-eq.suggestions.items
                w.in_ok-parsed_suggestion.field-0
                (parsed_suggestions (map script_line_view lines)) same
                (ap (λ v. v.items) w.suggestions-is ∙ w.in_ok-push.ensures.items)
                (w.in_ok-parsed_suggestion.ensures.suggestion
                ∙ ap (λ rest. parsed_suggestion rest (map script_line_view w.deref.result.now))
                w.rest.ensures.rest
                ∙ ap (parsed_suggestion (rest_of (script_line_view line))) found)
                c.loop-i.invariant.read;
            fault = suggestion_fine source lines i line c.loop-i-test.true c.index-lines-i.is
                _ same
                (subst (λ ls. edits_fault source ls ≡ None) found
                w.in_ok-parsed_suggestion.ensures.failed)
                c.loop-i.invariant.fault;
          }
      | else-eq w ↦
          let other = word ∙ w.if-eq.false in
          record {
            within = omega (arith, c.loop-i-test.true);
            read = ap (λ v. map suggestion_view v.items ++ parsed_suggestions later)
                w.suggestions-is
                ∙ ap (λ ss. map suggestion_view c.loop-i.suggestions.items ++ ss)
                (sym (no_suggestion source lines i line c.loop-i-test.true c.index-lines-i.is
                other))
                ∙ c.loop-i.invariant.read;
            fault = sym (no_suggestion_fault source lines i line c.loop-i-test.true
                c.index-lines-i.is other)
                ∙ c.loop-i.invariant.fault;
          }
    ]
