use Rattle.codespan_core.proofs.Std.{◌≡◌, ◌++◌, ◌<◌, drop, string_bytes}
use Rattle.codespan_core.proofs.Std.{IsCharBoundary}
use Rattle.codespan_edits.specs.Edits.{text_edits, edited_from}
use Rattle.codespan_edits.specs.Private.Places.{edits_at, FitFrom}
use Rattle.codespan_edits.proofs.apply.put_together.Given as goal

-- the edits left fit the text from this byte on, and add to the text so far what is missing
abbrev pub invariant-loop-place : goal.invariant-loop-place
invariant-loop-place g l =
    let all = edits_at (text_edits l.edits) l.places in
    let left = drop l.place-index all in
    record {
      boundary : 0 < l.byte → IsCharBoundary l.source l.byte;
      fit : FitFrom l.source l.byte left;
      text : string_bytes l.text ++ edited_from l.source l.byte left
          ≡ edited_from l.source 0 all;
    }
