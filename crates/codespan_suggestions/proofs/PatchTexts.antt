-- The text of a unified diff by its lines, for the clause of `laws::unified_diffs_are_patches`.
use Rattle.codespan_core.proofs.Std.{◌≡◌, ◌∙◌, ℕ, ◌-◌, ◌<◌, ◌^◌, ◌==◌, ◌&&◌}
use Rattle.codespan_core.proofs.Std.{◌||◌, Bool, true, false, if◌then◌else◌, List, [], ◌∷◌, ◌++◌}
use Rattle.codespan_core.proofs.Std.{length, flat_map, take, refl, sym, ap, ap₂, subst, arith}
use Rattle.codespan_core.proofs.Std.{codes, append_assoc, append-nil, AllByRecursion, nat_tests}
use Rattle.codespan_core.proofs.Std.{decimal, cond_both, flat_map-append, length-append}
use Rattle.codespan_core.proofs.Std.{true≢false, nat_lt, nat_le}
use Rattle.std.specs.Prelude.{slice_index_or}
use Rattle.std.specs.Str.Parse.{digits_value}
use Rattle.codespan_edits.specs.Diffs.{Row, is_whole}
use Rattle.codespan_edits.specs.Numbers.{NumberedRow}
use Rattle.codespan_edits.specs.declared.rows.RowSign.{RowSign}
use Rattle.codespan_edits.specs.declared.rows.RowSign.TheVariants.{Kept, Removed, Added}
use Rattle.std.proofs.Math.Seq.{take-append_seam}
use Rattle.codespan_suggestions.specs.Escapes.{escaped_byte, escaped, quoted}
use Rattle.codespan_suggestions.specs.UnifiedDiffs.{needs_quotes, has_space, path_text}
use Rattle.codespan_suggestions.specs.UnifiedDiffs.{old_numbers, new_numbers}
use Rattle.codespan_suggestions.specs.UnifiedDiffs.{sign_byte, row_text}
use Rattle.codespan_suggestions.specs.UnifiedDiffs.{hunk_text}
use Rattle.codespan_suggestions.specs.ReadOutput.{is_digit}
use Rattle.codespan_suggestions.specs.ReadPatches.{numbers_from, last_number}
use Rattle.codespan_suggestions.specs.ReadableChars.{IsOneRow}
use Rattle.codespan_suggestions.proofs.ReadLemmas.{decimal-numeral}
use Rattle.codespan_suggestions.proofs.ReadTexts.{IsLine}
use Rattle.codespan_suggestions.proofs.ReadFits.{one-by, one-then, decimal-one}

-- ---- texts of lines

-- lines, each ended by a newline
abbrev pub ended : List (List ℕ) → List ℕ
ended ls = flat_map (λ l. l ++ 10 ∷ []) ls

pub ended-append : (ks ls : List (List ℕ)) → ended (ks ++ ls) ≡ ended ks ++ ended ls
ended-append ks ls = flat_map-append (λ l. l ++ 10 ∷ []) ks ls

-- ---- rows

-- the lines of a row: its text without newline, and a mark where it has none
abbrev pub row_lines : Row → List (List ℕ)
row_lines r =
    if is_whole r.line then (sign_byte r.sign ∷ take (length r.line - 1) r.line) ∷ []
    else (sign_byte r.sign ∷ r.line) ∷ (codes "\\ No newline at end of file" ∷ [])

pub whole-last : (xs : List ℕ) (z : ℕ) → is_whole (xs ++ z ∷ []) ≡ (z == 10)
whole-last [] z = refl
whole-last (x ∷ []) z = refl
whole-last (x ∷ (y ∷ ys)) z = whole-last (y ∷ ys) z

pub before-last : (xs : List ℕ) (z : ℕ) → take (length (xs ++ z ∷ []) - 1) (xs ++ z ∷ []) ≡ xs
before-last xs z =
    let len : length (xs ++ z ∷ []) - 1 ≡ length xs =
    omega (arith, length-append xs (z ∷ [])) in
    ap (λ n. take n (xs ++ z ∷ [])) len ∙ take-append_seam xs (z ∷ [])

-- the text of a row is that of its lines, each of which is one
pub row-ended : (r : Row) → IsLine r.line
    → (row_text r ≡ ended (row_lines r)) × AllByRecursion IsOneRow (row_lines r)
row-ended r is =
    subst
    (λ (line : List ℕ). (row_text (record { sign = r.sign; line = line })
    ≡ ended (row_lines (record { sign = r.sign; line = line })))
    × AllByRecursion IsOneRow (row_lines (record { sign = r.sign; line = line })))
    (sym is.is)
    (by r.sign is.before is.last is.one (is.last == 10) refl)
  where
    sign-one : (s : RowSign) → (sign_byte s == 10) ≡ false
    sign-one Kept = refl
    sign-one Removed = refl
    sign-one Added = refl

    by : (s : RowSign) (xs : List ℕ) (z : ℕ) → IsOneRow xs → (t : Bool) → (z == 10) ≡ t
        → (row_text (record { sign = s; line = xs ++ z ∷ [] })
        ≡ ended (row_lines (record { sign = s; line = xs ++ z ∷ [] })))
        × AllByRecursion IsOneRow (row_lines (record { sign = s; line = xs ++ z ∷ [] }))
    by s xs z one true h =
        let whole : is_whole (xs ++ z ∷ []) ≡ true = whole-last xs z ∙ h in
        let code : z ≡ 10 = grind (arith, nat_tests, h) in
        rw (whole, before-last xs z) (
          ap (λ ys. sign_byte s ∷ ys)
              (append-nil (xs ++ z ∷ []) ∙ (ap (λ (y : ℕ). xs ++ y ∷ []) code
              ∙ sym (append-nil (xs ++ 10 ∷ [])))),
          ((sign-one s, one), tt),
        )
    by s xs z one false h =
        let whole : is_whole (xs ++ z ∷ []) ≡ false = whole-last xs z ∙ h in
        let line = xs ++ z ∷ [] in
        rw (whole) (
          ap (λ ys. sign_byte s ∷ ys)
              (sym (append_assoc line (10 ∷ []) (codes "\\ No newline at end of file\n"))),
          (
            (sign-one s, one-then xs (z ∷ []) one (h, tt)),
            (one-by (codes "\\ No newline at end of file") refl, tt),
          ),
        )

-- ---- heads of hunks

-- the head of a hunk with these numbers and counts, after its first sign
abbrev pub head_text : ℕ → ℕ → ℕ → ℕ → List ℕ
head_text a b c d =
    64 ∷ (32 ∷ (45 ∷ (decimal a ++ (44 ∷ (decimal b ++ (32 ∷ (43 ∷ (decimal c
    ++ (44 ∷ (decimal d ++ (32 ∷ (64 ∷ (64 ∷ [])))))))))))))

last-is : (ds : List ℕ) → 0 < length ds → last_number ds ≡ digits_value 10 ds ∷ []
last-is [] some = absurd (omega (arith, some))
last-is (d ∷ ds) some = refl

run-read : (ds held rest : List ℕ) (k : ℕ) → AllByRecursion (λ d. is_digit d ≡ true) ds
    → is_digit k ≡ false
    → numbers_from held (ds ++ k ∷ rest) ≡ last_number (held ++ ds) ++ numbers_from [] rest
run-read [] held rest k all ends =
    rw ends (ap (λ xs. last_number xs ++ numbers_from [] rest) (sym (append-nil held)))
run-read (d ∷ ds) held rest k all ends =
    rw all.0
    (run-read ds (held ++ d ∷ []) rest k all.1 ends
    ∙ ap (λ xs. last_number xs ++ numbers_from [] rest) (append_assoc held (d ∷ []) ds))

number-run : (n : ℕ) (rest : List ℕ) (k : ℕ) → n < 2 ^ 64 → is_digit k ≡ false
    → numbers_from [] (decimal n ++ k ∷ rest) ≡ n ∷ numbers_from [] rest
number-run n rest k few ends =
    let is = decimal-numeral n few in
    run-read (decimal n) [] rest k is.digits ends
    ∙ ap (λ xs. xs ++ numbers_from [] rest)
    (last-is (decimal n) is.some ∙ ap (λ (m : ℕ). m ∷ []) is.value)

-- four numbers of 64 bits
pub record AreFew (a b c d : ℕ) : Type 0 where
  pub first : a < 2 ^ 64
  pub second : b < 2 ^ 64
  pub third : c < 2 ^ 64
  pub fourth : d < 2 ^ 64

pub head-read : (a b c d : ℕ) → AreFew a b c d
    → numbers_from [] (head_text a b c d) ≡ a ∷ (b ∷ (c ∷ (d ∷ [])))
head-read a b c d few =
    number-run a _ 44 few.first refl
    ∙ ap (λ xs. a ∷ xs) (number-run b _ 32 few.second refl
    ∙ ap (λ xs. b ∷ xs) (number-run c _ 44 few.third refl
    ∙ ap (λ xs. c ∷ xs) (number-run d (64 ∷ (64 ∷ [])) 32 few.fourth refl)))

head-one : (a b c d : ℕ) → AreFew a b c d → IsOneRow (64 ∷ head_text a b c d)
head-one a b c d few =
    one-then (codes "@@ -") _ (one-by (codes "@@ -") refl)
    (one-then (decimal a) _ (decimal-one a few.first)
    (one-then (44 ∷ []) _ (one-by (44 ∷ []) refl)
    (one-then (decimal b) _ (decimal-one b few.second)
    (one-then (32 ∷ (43 ∷ [])) _ (one-by (32 ∷ (43 ∷ [])) refl)
    (one-then (decimal c) _ (decimal-one c few.third)
    (one-then (44 ∷ []) _ (one-by (44 ∷ []) refl)
    (one-then (decimal d) (32 ∷ (64 ∷ (64 ∷ []))) (decimal-one d few.fourth)
    (one-by (32 ∷ (64 ∷ (64 ∷ []))) refl))))))))

-- the number of the first row, 0 where there is none
abbrev pub first_of : List ℕ → ℕ
first_of numbers = slice_index_or numbers 0 0

abbrev pub head_of : List NumberedRow → List ℕ
head_of rows =
    head_text (first_of (old_numbers rows)) (length (old_numbers rows))
    (first_of (new_numbers rows)) (length (new_numbers rows))

header-is : (a b c d : List ℕ)
    → codes "@@ -" ++ ((a ++ (codes "," ++ b))
    ++ (codes " +" ++ ((c ++ (codes "," ++ d)) ++ codes " @@\n")))
    ≡ (64 ∷ (64 ∷ (32 ∷ (45 ∷ (a ++ (44 ∷ (b ++ (32 ∷ (43 ∷ (c
    ++ (44 ∷ (d ++ (32 ∷ (64 ∷ (64 ∷ []))))))))))))))) ++ 10 ∷ []
header-is a b c d = simp append_assoc

-- the lines of a hunk
abbrev pub hunk_lines : List NumberedRow → List (List ℕ)
hunk_lines rows =
    (64 ∷ head_of rows) ∷ flat_map (λ (r : NumberedRow). row_lines r.row) rows

pub lines-then : (ks ls : List (List ℕ)) → AllByRecursion IsOneRow ks → AllByRecursion IsOneRow ls
    → AllByRecursion IsOneRow (ks ++ ls)
lines-then [] ls all more = more
lines-then (k ∷ ks) ls all more = (all.0, lines-then ks ls all.1 more)

rows-ended : (rows : List NumberedRow)
    → AllByRecursion (λ (r : NumberedRow). IsLine r.row.line) rows
    → (flat_map (λ (r : NumberedRow). row_text r.row) rows
    ≡ ended (flat_map (λ (r : NumberedRow). row_lines r.row) rows))
    × AllByRecursion IsOneRow (flat_map (λ (r : NumberedRow). row_lines r.row) rows)
rows-ended [] all = (refl, tt)
rows-ended (r ∷ rs) all =
    let one = row-ended r.row all.0 in
    let more = rows-ended rs all.1 in
    let later = flat_map (λ (r : NumberedRow). row_lines r.row) rs in (
      ap₂ (λ xs ys. xs ++ ys) one.0 more.0 ∙ sym (ended-append (row_lines r.row) later),
      lines-then (row_lines r.row) later one.1 more.1,
    )

pub hunk-ended : (rows : List NumberedRow)
    → AllByRecursion (λ (r : NumberedRow). IsLine r.row.line) rows
    → AreFew (first_of (old_numbers rows)) (length (old_numbers rows))
    (first_of (new_numbers rows)) (length (new_numbers rows))
    → (hunk_text rows ≡ ended (hunk_lines rows)) × AllByRecursion IsOneRow (hunk_lines rows)
hunk-ended rows all few =
    let each = rows-ended rows all in (
      ap₂ (λ xs ys. xs ++ ys)
          (header-is (decimal (first_of (old_numbers rows)))
          (decimal (length (old_numbers rows))) (decimal (first_of (new_numbers rows)))
          (decimal (length (new_numbers rows)))) each.0,
      (head-one _ _ _ _ few, each.1),
    )

-- ---- heads of files

or_false : (a b : Bool) → a || b ≡ false → (a ≡ false) × (b ≡ false)
or_false true b h = absurd (true≢false h)
or_false false b h = (refl, h)

name-one : (name : List ℕ) → needs_quotes name ≡ false → IsOneRow name
name-one [] none = tt
name-one (b ∷ bs) none =
    let parts = or_false (nat_lt b 32 || (b == 127 || (b == 34 || b == 92))) _ none in
    let big : nat_lt b 32 ≡ false = (or_false (nat_lt b 32) _ parts.0).0 in
    (grind (arith, nat_tests, big), name-one bs parts.1)

escape-one : (b : ℕ) → IsOneRow (escaped_byte b)
escape-one b =
    cond_both (b == 92) _ _ IsOneRow (λ _. one-by (codes "\\\\") refl)
    (λ _. cond_both (b == 34) _ _ IsOneRow (λ _. one-by (codes "\\\"") refl)
    (λ _. cond_both (b == 9) _ _ IsOneRow (λ _. one-by (codes "\\t") refl)
    (λ _. cond_both (b == 10) _ _ IsOneRow (λ _. one-by (codes "\\n") refl)
    (λ other. cond_both (nat_le 32 b && nat_le b 126) _ _ IsOneRow (λ _. (other, tt))
    (λ _. (
      refl,
      (
        grind (arith, nat_tests),
        (
          grind (arith, nat_tests),
          (grind (arith, nat_tests), tt),
        ),
      ),
    ))))))

quoted-one : (text : List ℕ) → IsOneRow (quoted text)
quoted-one text =
    (refl, one-then (escaped text) (34 ∷ []) (by text) (refl, tt))
  where
    by : (bs : List ℕ) → IsOneRow (escaped bs)
    by [] = tt
    by (b ∷ bs) = one-then (escaped_byte b) (escaped bs) (escape-one b) (by bs)

pub path-one : (folder name : List ℕ) → IsOneRow folder → IsOneRow (path_text folder name)
path-one folder name one =
    cond_both (needs_quotes name) (quoted (folder ++ name))
    (folder ++ (name ++ (if has_space name then codes "\t" else []))) IsOneRow
    (λ _. quoted-one (folder ++ name))
    (λ none. one-then folder _ one
    (one-then name (if has_space name then codes "\t" else []) (name-one name none)
    (cond_both (has_space name) (codes "\t") [] IsOneRow (λ _. (refl, tt)) (λ _. tt))))

-- the lines of a file with hunks
abbrev pub file_lines : List ℕ → List (List NumberedRow) → List (List ℕ)
file_lines name [] = []
file_lines name (hunk ∷ hunks) =
    (codes "--- " ++ path_text (codes "a/") name)
    ∷ ((codes "+++ " ++ path_text (codes "b/") name) ∷ flat_map hunk_lines (hunk ∷ hunks))

pub head-ended : (a b : List ℕ)
    → codes "--- " ++ (a ++ (codes "\n+++ " ++ (b ++ codes "\n")))
    ≡ ((codes "--- " ++ a) ++ 10 ∷ []) ++ (((codes "+++ " ++ b) ++ 10 ∷ []) ++ [])
head-ended a b =
    let second = codes "+++ " ++ (b ++ 10 ∷ []) in
    ap (λ ys. codes "--- " ++ ys)
    (ap (λ ys. a ++ (10 ∷ ys)) (sym (append-nil second))
    ∙ sym (append_assoc a (10 ∷ []) (second ++ [])))
