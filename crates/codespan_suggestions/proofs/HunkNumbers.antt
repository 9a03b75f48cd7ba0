-- The line numbers of a hunk's rows, one row after another, for the clauses of `hunk_spans`.
use Rattle.codespan_core.proofs.Std.{◌≡◌, ℕ, ◌+◌, ◌<◌, ◌≤◌, List, []}
use Rattle.codespan_core.proofs.Std.{◌∷◌, ◌++◌, length, take, get_or, refl, sym, ap}
use Rattle.codespan_core.proofs.Std.{◌∙◌, arith, Option, Some, None, take_more, map-append}
use Rattle.codespan_core.proofs.Std.{filter_map, filter_map-append, length-append, cons_option}
use Rattle.codespan_edits.specs.Numbers.{NumberedRow}
use Rattle.codespan_edits.specs.RowViews.{numbered_row}
use Rattle.codespan_edits.specs.declared.rows.DiffRow.{DiffRow}
use Rattle.codespan_suggestions.specs.declared.hunk_spans.Span.{Span}
use Rattle.codespan_suggestions.specs.Private.Spans.{span_of, as_list, numbered_rows}

-- the numbers of one row
one-number : (o : Option ℕ) → cons_option o [] ≡ as_list o
one-number None = refl
one-number (Some n) = refl

-- the numbers of one more row come after those of the rows before
pub numbers-more : (number : NumberedRow → Option ℕ) (rows : List DiffRow) (i : ℕ)
    (row : DiffRow) → i < length rows → row ≡ get_or rows i row
    → filter_map number (numbered_rows (take i rows)) ++ as_list (number (numbered_row row))
    ≡ filter_map number (numbered_rows (take (i + 1) rows))
numbers-more number rows i row inside is =
    ap (λ (ns : List ℕ). filter_map number (numbered_rows (take i rows)) ++ ns)
    (sym (one-number (number (numbered_row row))))
    ∙ sym (filter_map-append number (numbered_rows (take i rows)) (numbered_row row ∷ []))
    ∙ ap (λ (rs : List NumberedRow). filter_map number rs)
    (sym (map-append numbered_row (take i rows) (row ∷ [])))
    ∙ ap (λ (rs : List DiffRow). filter_map number (numbered_rows rs))
    (ap (λ (r : DiffRow). take i rows ++ r ∷ []) is ∙ sym (take_more rows i row inside))

-- a row adds one number at most
one-at-most : (o : Option ℕ) → length (as_list o) ≤ 1
one-at-most None = omega arith
one-at-most (Some n) = omega arith

pub few-more : (numbers : List ℕ) (o : Option ℕ) (i : ℕ) (old new : Span)
    → old ≡ span_of numbers → old.count ≤ i → new ≡ span_of (numbers ++ as_list o)
    → new.count ≤ i + 1
few-more numbers o i old new was few is =
    omega (
      arith,
      few,
      ap (λ (s : Span). s.count) was,
      ap (λ (s : Span). s.count) is,
      length-append numbers (as_list o),
      one-at-most o,
    )
