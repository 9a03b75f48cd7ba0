use Rattle.codespan_core.proofs.Std.{◌≤◌, ◌==◌, length, ap, arith, sym, ◌∙◌}
use Rattle.codespan_core.proofs.Std.{list_any}
use Rattle.codespan_output.specs.Private.{line_view}
use Rattle.codespan_output.proofs.Characters.PlainText.{no-style-past, tail-taken}
use Rattle.codespan_output.proofs.rows.text_styles.plain_from.Goals as goal

pub returns-else-contains-clause-style : goal.returns-else-contains-clause-style
returns-else-contains-clause-style c = λ x low high some.
    let size = ap length c.as_bytes-text.ensures.value in
    let past : c.max.result ≤ x.byte_index = omega (arith, c.min-end.ensures, size, low, high) in
    let marked = c.end.ensures x (omega (arith, past, c.max.ensures)) (omega (arith, high)) some in
    no-style-past (line_view c.args.line) c.args.primary x c.requires.primary marked
    (omega (arith, past, c.max.ensures, c.max_primary_end.ensures)) some

pub returns-else-contains-clause-tab : goal.returns-else-contains-clause-tab
returns-else-contains-clause-tab c =
    let text = c.as_bytes-text in
    let tail =
    tail-taken c.min-end.result c.args.line.text.now text.result.now text.ensures.value in
    ap (list_any (λ b. b == 9)) (sym tail) ∙ sym c.contains.ensures.value ∙ c.if-contains.false
