use Rattle.codespan_core.proofs.Std.{◌≡◌, ◌+◌, length, drop}
use Rattle.codespan_edits.specs.Edits.{text_edits, edited_from}
use Rattle.codespan_edits.specs.Private.Places.{edits_at, FitFrom}
use Rattle.codespan_edits.proofs.apply.edited_len.Given as goal

-- the edits left fit the text from this byte on, and add to the length so far what is missing
abbrev pub invariant-loop-place : goal.invariant-loop-place
invariant-loop-place g l =
    let all = edits_at (text_edits l.edits) l.places in
    let left = drop l.place-index all in
    record {
      fit : FitFrom l.source l.byte left;
      len : l.len + length (edited_from l.source l.byte left)
          ≡ length (edited_from l.source 0 all);
    }
