-- The numbers of the rows so far, for the clause `numbers` of `number_rows`.
use Rattle.codespan_core.proofs.Std.{◌≡◌, ℕ, ◌+◌, ◌<◌, ◌≤◌, Bool, true, false}
use Rattle.codespan_core.proofs.Std.{List, [], ◌∷◌, ◌++◌, length, get_or, take, drop, set}
use Rattle.codespan_core.proofs.Std.{map, Option, sym, ap, append_assoc, map-append, drop_more}
use Rattle.codespan_core.proofs.Std.{◌∙◌, arith}
use Rattle.std.proofs.lemmas.List.{take_more_set, drop-set-lt}
use Rattle.codespan_edits.specs.Numbers.{is_old, is_new, number_of, next_number, NumberedRow}
use Rattle.codespan_edits.specs.Numbers.{numbered_from}
use Rattle.codespan_edits.specs.RowViews.{row_view, numbered_row}
use Rattle.codespan_edits.specs.declared.rows.DiffRow.{DiffRow}

-- one more row gets its numbers, in the place of x
pub numbers-more : (xs : List DiffRow) (i : ℕ) (x : DiffRow) (a b : Option ℕ) (s t : Bool)
    (o n p q : ℕ) (all : List NumberedRow) → i < length xs
    → s ≡ is_old (get_or xs i x).sign → t ≡ is_new (get_or xs i x).sign
    → a ≡ number_of s o → b ≡ number_of t n → p ≡ next_number s o
    → q ≡ next_number t n
    → map numbered_row (take i xs) ++ numbered_from o n (map row_view (drop i xs)) ≡ all
    → map numbered_row (take (i + 1) (set xs i (record {
      sign = (get_or xs i x).sign;
      line = (get_or xs i x).line;
      old_number = a;
      new_number = b;
    })))
    ++ numbered_from p q (map row_view (drop (i + 1) (set xs i (record {
      sign = (get_or xs i x).sign;
      line = (get_or xs i x).line;
      old_number = a;
      new_number = b;
    })))) ≡ all
numbers-more xs i x a b s t o n p q all inside s_is t_is a_is b_is p_is q_is was =
    let y : DiffRow = record {
      sign = (get_or xs i x).sign;
      line = (get_or xs i x).line;
      old_number = a;
      new_number = b;
    } in
    let front : map numbered_row (take (i + 1) (set xs i y))
    ≡ map numbered_row (take i xs) ++ numbered_row y ∷ [] =
    ap (map numbered_row) (take_more_set xs i y inside)
    ∙ map-append numbered_row (take i xs) (y ∷ []) in
    let back : drop (i + 1) (set xs i y) ≡ drop (i + 1) xs =
    drop-set-lt (i + 1) xs i y (omega arith) in
    rw (front, back)
    (append_assoc (map numbered_row (take i xs)) (numbered_row y ∷ [])
    (numbered_from p q (map row_view (drop (i + 1) xs)))
    ∙ (rw (a_is, b_is, p_is, q_is, s_is, t_is)
    (ap (λ rs. map numbered_row (take i xs) ++ numbered_from o n (map row_view rs))
    (sym (drop_more xs i x inside)))
    ∙ was))

-- after one more row no more lines are counted than there are rows
pub count-le : (b : Bool) (n m i : ℕ) → n ≤ i → m + 1 ≡ next_number b (n + 1)
    → m ≤ i + 1
count-le true n m i h is = omega (arith, h, is)
count-le false n m i h is = omega (arith, h, is)
