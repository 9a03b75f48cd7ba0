-- What a writer of styles holds after one style mark: for the clause of `terminal::sequences`.
use Rattle.std.proofs.Common.{◌≡◌, ℕ, true, List, [], ◌++◌, Option, Some, sym, ap}
use Rattle.std.proofs.Common.{◌∙◌, append-nil}
use Rattle.codespan_base.specs.Streams.{Spelling, style_mark, spelled}
use Rattle.codespan_base.specs.declared.term.config.style_mark.StyleMark.{StyleMark}
use Rattle.codespan_base.specs.WriterLaw.{Sink, are_known, extended, is_known, with_written}
use Rattle.codespan_base.specs.Writers.{fresh_sink}

-- the bytes are those of the style mark
pub written_sequences : (spelling : Spelling) (mark : StyleMark) (start end : Sink)
    (first : Option (List ℕ)) (bytes : List ℕ)
    → start ≡ fresh_sink spelling first → first ≡ Some []
    → (is_known start ≡ true → end ≡ with_written start (style_mark mark))
    → end.contents ≡ Some bytes → bytes ≡ spelling mark
unfolding with_written extended style_mark is_known are_known
written_sequences spelling mark start end first bytes fresh empty written contents =
    let starts : start ≡ fresh_sink spelling (Some []) = fresh
    ∙ ap (fresh_sink spelling) empty in
    let known : is_known start ≡ true = ap is_known starts in
    let bytes_are : Some bytes
    ≡ extended start.contents (spelled start.frame.spelling (style_mark mark)) =
    sym contents ∙ ap (λ (s : Sink). s.contents) (written known) in
    let same : Some bytes ≡ Some (spelling mark ++ []) = bytes_are
    ∙ ap (λ (s : Sink). extended s.contents (spelled s.frame.spelling (style_mark mark)))
    starts in
    let is : bytes ≡ spelling mark ++ [] = cc in
    is ∙ append-nil (spelling mark)
