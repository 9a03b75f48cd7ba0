-- For the law `line_counts_newlines`: a byte's line is the number of newlines before it.
use Rattle.codespan_core.proofs.Std.{◌≡◌, ℕ, suc, ◌+◌, ◌-◌, ◌<◌, ◌≤◌}
use Rattle.codespan_core.proofs.Std.{Bool, true, false, cond, List, [], ◌∷◌, length, get_or}
use Rattle.codespan_core.proofs.Std.{take, Option, refl, ap, sym, ◌∙◌, arith, eqb, count_by}
use Rattle.codespan_core.proofs.Std.{nat_le, ◌==◌, if◌then◌else◌, cases_lt, le-leb}
use Rattle.codespan_core.proofs.Std.{lt-leb, sum_by-cons, common_steps}
use Rattle.std.proofs.Math.Seq.{take-nil}
use Rattle.codespan_core.specs.FileModel.{line_of}
use Rattle.codespan_core.specs.SimpleModel.{simple_file}
use Rattle.codespan_core.specs.Lines.{starts_after, line_starts_of}
use Rattle.codespan_core.specs.Lemmas.Lines.{cuts, count_split}
use Rattle.codespan_base.specs.FileLaws.{newlines, LineCountsNewlines}

-- one more byte in front
newlines_more : (b : ℕ) (bs : List ℕ) (n : ℕ)
    → newlines (b ∷ bs) (suc n) ≡ cond (eqb b 10) 1 0 + newlines bs n
newlines_more b bs n = sum_by-cons (λ b. cond (b == 10) 1 0) b (take n bs)

-- numbers above `byte` are not counted
none_counted : (byte : ℕ) (xs : List ℕ)
    → ((k : ℕ) → k < length xs → byte < get_or xs k 0)
    → count_by (λ s. nat_le s byte) xs ≡ 0
none_counted byte xs above =
    count_split byte xs 0 (omega arith) (λ k p. absurd (omega arith)) (λ k p q. above k q)

-- the starts at most `byte`, of bytes from `from` on, where the byte is before the second of them
early : (byte from b : ℕ) (bs xs : List ℕ) (v : Bool) → byte ≤ from
    → ((k : ℕ) → k < length xs → from + 1 < get_or xs k 0)
    → count_by (λ s. nat_le s byte) (if v then (from + 1) ∷ xs else xs) ≡ newlines (b ∷ bs)
    (byte - from)
early byte from b bs xs true h above =
    let z : byte - from ≡ 0 = omega arith in
    let n : count_by (λ s. nat_le s byte) xs ≡ 0 =
    none_counted byte xs (λ k p. omega (arith, above k p)) in
    rw z
    (sum_by-cons (λ s. cond (nat_le s byte) 1 0) (from + 1) xs
    ∙ rw (lt-leb (from + 1) byte (omega arith)) (omega (arith, n)))
early byte from b bs xs false h above =
    let z : byte - from ≡ 0 = omega arith in
    rw z (none_counted byte xs (λ k p. omega (arith, above k p)))

-- the same where the byte is not before it
late : (byte from b : ℕ) (bs xs : List ℕ) (v : Bool) → from < byte → eqb b 10 ≡ v
    → count_by (λ s. nat_le s byte) xs ≡ newlines bs (byte - (from + 1))
    → count_by (λ s. nat_le s byte) (if v then (from + 1) ∷ xs else xs) ≡ newlines (b ∷ bs)
    (byte - from)
late byte from b bs xs true h e same =
    let z : byte - from ≡ suc (byte - (from + 1)) = omega arith in
    rw z
    (sum_by-cons (λ s. cond (nat_le s byte) 1 0) (from + 1) xs
    ∙ rw (le-leb (from + 1) byte (omega arith))
    (ap (λ n. 1 + n) same ∙ sym (rw e at (newlines_more b bs (byte - (from + 1))))))
late byte from b bs xs false h e same =
    let z : byte - from ≡ suc (byte - (from + 1)) = omega arith in
    let m : newlines (b ∷ bs) (suc (byte - (from + 1))) ≡ 0 + newlines bs (byte - (from + 1)) =
    rw e at (newlines_more b bs (byte - (from + 1))) in
    rw z (same ∙ sym (omega (arith, m)))

-- the starts at most `byte` are the newlines before it
pub counted : (byte from : ℕ) (bs : List ℕ)
    → count_by (λ s. nat_le s byte) (starts_after from bs) ≡ newlines bs (byte - from)
counted byte from [] = rw (take-nil {A = ℕ} (byte - from)) refl
counted byte from (b ∷ bs) =
    grind (arith, common_steps, cases_lt, late, early, counted byte (from + 1) bs)

-- the line of a byte is the number of newlines before it
line_before : (text : List ℕ) (byte : ℕ)
    → line_of (line_starts_of text) byte ≡ newlines text byte
unfolding line_of
line_before text byte =
    let n : count_by (λ s. nat_le s byte) (line_starts_of text) ≡ 1
    + count_by (λ s. nat_le s byte) (starts_after 0 text) =
    sum_by-cons (λ s. cond (nat_le s byte) 1 0) 0 (starts_after 0 text)
    ∙ rw (le-leb 0 byte (omega arith)) refl in
    let z : byte - 0 ≡ byte = omega arith in
    let c : count_by (λ s. nat_le s byte) (starts_after 0 text) ≡ newlines text byte =
    rw z at (counted byte 0 text) in
    omega (arith, n, c)

-- past the end no start is after the byte, so it is the last line
line_past_text : (text : List ℕ) (byte : ℕ) → length text ≤ byte
    → line_of (line_starts_of text) byte ≡ length (line_starts_of text) - 1
unfolding line_of
line_past_text text byte h =
    let starts : List ℕ = starts_after 0 text in
    let n : count_by (λ s. nat_le s byte) starts ≡ length starts =
    count_split byte starts (length starts) (omega arith)
    (λ k p. omega (arith, (cuts 0 text).within k p)) (λ k p q. absurd (omega arith)) in
    let m : count_by (λ s. nat_le s byte) (0 ∷ starts)
    ≡ 1 + count_by (λ s. nat_le s byte) starts =
    sum_by-cons (λ s. cond (nat_le s byte) 1 0) 0 starts
    ∙ rw (le-leb 0 byte (omega arith)) refl in
    omega (arith, n, m)

-- this holds for the file of any text
pub line_counts : (name : Option (List ℕ)) (text : List ℕ)
    → LineCountsNewlines (simple_file name text)
line_counts name text = record { before = line_before text; past_text = line_past_text text }
