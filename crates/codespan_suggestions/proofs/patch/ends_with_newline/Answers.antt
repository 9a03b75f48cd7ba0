use Rattle.codespan_edits.proofs.DiffLoops.{whole-last}
use Rattle.codespan_suggestions.proofs.patch.ends_with_newline.Goals as goal

-- the last byte is a newline
pub returns-in-Some : goal.returns-in-Some
returns-in-Some c =
    whole-last c.as_bytes.result.now c.args.line.now c.in-Some.byte.now c.as_bytes.ensures.value
    c.in-Some.ensures.value
