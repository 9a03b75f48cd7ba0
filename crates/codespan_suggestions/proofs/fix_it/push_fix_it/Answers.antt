use Rattle.codespan_core.proofs.Std.{ap, ◌∙◌, encode_utf8, ◌++◌, ℕ, List, string_bytes}
use Rattle.codespan_core.proofs.Std.{codes}
use Rattle.codespan_edits.specs.Edits.{text_edit}
use Rattle.codespan_suggestions.specs.Escapes.{quoted}
use Rattle.codespan_suggestions.specs.FixIts.{range_text}
use Rattle.codespan_suggestions.proofs.FixItLines.{seven-parts}
use Rattle.codespan_suggestions.proofs.fix_it.push_fix_it.Goals as goal

-- the parts of the line
pub returns : goal.returns
unfolding encode_utf8
returns g c =
    seven-parts (string_bytes c.args.output.now) (string_bytes c.push_str.new.self)
    (string_bytes c.push_quoted.new.output) (string_bytes c.push.new.self)
    (string_bytes c.push_range.new.output) (string_bytes c.push-2.new.self)
    (string_bytes c.push_quoted-2.new.output) (string_bytes c.push-3.new.self)
    (codes "fix-it:") (quoted c.args.name.now) (codes ":")
    (range_text c.args.lines.now.text.now (text_edit c.args.edit.now)) (codes ":")
    (quoted (string_bytes c.args.edit.now.replacement)) (codes "\n")
    c.in_ok-push_str.ensures.bytes c.in_ok-push_quoted.ensures c.in_ok-push.ensures.bytes
    c.in_ok-push_range.ensures c.in_ok-push-2.ensures.bytes
    (c.in_ok-push_quoted-2.ensures
    ∙ ap (λ (bytes : List ℕ). string_bytes c.push-2.new.self ++ quoted bytes)
    c.as_str.ensures.value)
    c.in_ok-push-3.ensures.bytes
