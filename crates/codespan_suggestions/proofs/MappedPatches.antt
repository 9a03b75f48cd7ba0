-- Patches whose lines are changed alike, for the clause of `laws::sources_and_output_give_texts`.
use Rattle.codespan_core.proofs.Std.{◌≡◌, ◌∙◌, ℕ, ◌+◌, ◌-◌, ◌==◌, ◌&&◌, Bool, true, false}
use Rattle.codespan_core.proofs.Std.{if◌then◌else◌, List, [], ◌∷◌, ◌++◌, take}
use Rattle.codespan_core.proofs.Std.{map, refl, sym, ap, ap₂, map-append, length-map, take-map}
use Rattle.codespan_core.proofs.Std.{drop-map, bytes_eq, Option, Some, None, option_map}
use Rattle.codespan_core.proofs.Std.{option_map_or, subst, true≢false}
use Rattle.std.specs.Prelude.{option_and_then}
use Rattle.std.specs.Bool.{Decides}
use Rattle.std.proofs.lemmas.Slice.Eq.{bytes_eq-Decides}
use Rattle.codespan_edits.specs.Numbers.{NumberedRow, is_old, is_new, next_number}
use Rattle.codespan_edits.specs.Patches.{Patching, copy, lines_before, is_next, after_line}
use Rattle.codespan_edits.specs.Patches.{take_row}
use Rattle.codespan_edits.specs.Patches.{patch_row, patch_rows, patched}
use Rattle.codespan_edits.specs.declared.rows.RowSign.{RowSign}

-- an option has a value
abbrev HasValue : {A : Type 0} → Option A → Type 0
HasValue None = ⊥
HasValue (Some a) = Unit {0}

-- a patch that goes on
abbrev going_on : List (List ℕ) → ℕ → List (List ℕ) → Option Patching
going_on written passed left = Some (record { written = written; passed = passed; left = left })

module _ (f : List ℕ → List ℕ) where
  -- a row with its line changed
  abbrev pub mapped_row : NumberedRow → NumberedRow
  mapped_row r = record {
    row = record { sign = r.row.sign; line = f r.row.line };
    old_number = r.old_number;
    new_number = r.new_number;
  }

  abbrev image : Patching → Patching
  image p = record {
    written = map f p.written;
    passed = p.passed;
    left = map f p.left;
  }

  after-mapped : (line : List ℕ) (ls : List (List ℕ)) → HasValue (after_line line ls)
      → after_line (f line) (map f ls) ≡ option_map (map f) (after_line line ls)
  after-mapped line [] some = absurd some
  after-mapped line (l ∷ ls) some =
      by (bytes_eq l line) (bytes_eq (f l) (f line)) (bytes_eq-Decides l line)
      (bytes_eq-Decides (f l) (f line)) some
    where
      by : (b c : Bool) → Decides b (l ≡ line) → Decides c (f l ≡ f line)
          → HasValue (if b then Some ls else None)
          → (if c then Some (map f ls) else None)
          ≡ option_map (map f) (if b then Some ls else None)
      by true true is are some = refl
      by true false is are some =
          absurd (true≢false (sym (are.1 (ap f (is.0 refl)))))
      by false c is are some = absurd some

  some-mapped : {A B : Type 0} (g : A → B) (o : Option A) → HasValue (option_map g o)
      → HasValue o
  some-mapped g None some = absurd some
  some-mapped g (Some a) some = tt

  taken : (sign : RowSign) (line : List ℕ) (p : Patching) (o : Option (List (List ℕ)))
      → option_map {T = List (List ℕ)} {U = Patching} (λ ls. record {
        written = if is_new sign then map f p.written ++ f line ∷ [] else map f p.written;
        passed = next_number (is_old sign) p.passed;
        left = ls;
      }) (option_map (map f) o)
      ≡ option_map image (option_map (λ (ls : List (List ℕ)). record {
        written = if is_new sign then p.written ++ line ∷ [] else p.written;
        passed = next_number (is_old sign) p.passed;
        left = ls;
      }) o)
  taken sign line p None = refl
  taken sign line p (Some ls) = by (is_new sign) where
    by : (b : Bool)
        → going_on (if b then map f p.written ++ f line ∷ [] else map f p.written)
        (next_number (is_old sign) p.passed) (map f ls)
        ≡ going_on (map f (if b then p.written ++ line ∷ [] else p.written))
        (next_number (is_old sign) p.passed) (map f ls)
    by true =
        ap (λ (xs : List (List ℕ)). going_on xs (next_number (is_old sign) p.passed) (map f ls))
        (sym (map-append f p.written (line ∷ [])))
    by false = refl

  take-mapped : (r : NumberedRow) (p : Patching) → HasValue (take_row r.row p)
      → take_row (mapped_row r).row (image p) ≡ option_map image (take_row r.row p)
  take-mapped r p some =
      ap (option_map {T = List (List ℕ)} {U = Patching} (λ ls. record {
        written =
            if is_new r.row.sign then map f p.written ++ f r.row.line ∷ [] else map f p.written;
        passed = next_number (is_old r.row.sign) p.passed;
        left = ls;
      }))
      (by (is_old r.row.sign) some)
      ∙ taken r.row.sign r.row.line p
      (if is_old r.row.sign then after_line r.row.line p.left else Some p.left)
    where
      by : (b : Bool)
          → HasValue (option_map {T = List (List ℕ)} {U = Patching} (λ ls. record {
            written = if is_new r.row.sign then p.written ++ r.row.line ∷ [] else p.written;
            passed = next_number (is_old r.row.sign) p.passed;
            left = ls;
          }) (if b then after_line r.row.line p.left else Some p.left))
          → (if b then after_line (f r.row.line) (map f p.left) else Some (map f p.left))
          ≡ option_map (map f) (if b then after_line r.row.line p.left else Some p.left)
      by true some = after-mapped r.row.line p.left (some-mapped _ _ some)
      by false some = refl

  before-mapped : (r : NumberedRow) (p : Patching)
      → lines_before (mapped_row r) (image p) ≡ lines_before r p
  before-mapped r p =
      ap (λ (k : ℕ). option_map_or (λ n. n - (p.passed + 1)) r.old_number
      (option_map_or (λ n. n - (k + 1)) r.new_number 0)) (length-map p.written f)

  next-mapped : (r : NumberedRow) (p : Patching)
      → is_next (mapped_row r) (image p) ≡ is_next r p
  next-mapped r p =
      ap (λ (k : ℕ). option_map_or (λ n. n == p.passed + 1) r.old_number true
      && option_map_or (λ n. n == k + 1) r.new_number true) (length-map p.written f)

  copy-mapped : (n : ℕ) (p : Patching) → copy n (image p) ≡ image (copy n p)
  copy-mapped n p =
      ap₂ (λ (xs ys : List (List ℕ)). record { written = xs; passed = p.passed + n; left = ys })
      (ap (λ xs. map f p.written ++ xs) (take-map f n p.left)
      ∙ sym (map-append f p.written (take n p.left)))
      (drop-map f n p.left)

  row-mapped : (r : NumberedRow) (p : Patching) → HasValue (patch_row r p)
      → patch_row (mapped_row r) (image p) ≡ option_map image (patch_row r p)
  row-mapped r p some =
      let q = copy (lines_before r p) p in
      ap
      (λ (x : Patching).
      if is_next (mapped_row r) x then take_row (mapped_row r).row x else None)
      (ap (λ n. copy n (image p)) (before-mapped r p) ∙ copy-mapped (lines_before r p) p)
      ∙ (ap (λ b. if b then take_row (mapped_row r).row (image q) else None) (next-mapped r q)
      ∙ by (is_next r q) some)
    where
      by : (b : Bool)
          → HasValue (if b then take_row r.row (copy (lines_before r p) p) else None)
          → (if b then take_row (mapped_row r).row (image (copy (lines_before r p) p)) else None)
          ≡ option_map image (if b then take_row r.row (copy (lines_before r p) p) else None)
      by true some = take-mapped r (copy (lines_before r p) p) some
      by false some = absurd some

  rows-mapped : (rows : List NumberedRow) (p : Patching) → HasValue (patch_rows rows p)
      → patch_rows (map mapped_row rows) (image p)
      ≡ option_map (map f) (patch_rows rows p)
  rows-mapped [] p some = ap Some (sym (map-append f p.written p.left))
  rows-mapped (r ∷ rs) p some =
      by (patch_row r p) (patch_row (mapped_row r) (image p)) (row-mapped r p)
      (λ q. rows-mapped rs q) some
    where
      by : (o x : Option Patching) → (HasValue o → x ≡ option_map image o)
          → ((q : Patching) → HasValue (patch_rows rs q)
          → patch_rows (map mapped_row rs) (image q) ≡ option_map (map f) (patch_rows rs q))
          → HasValue (option_and_then (patch_rows rs) o)
          → option_and_then (patch_rows (map mapped_row rs)) x
          ≡ option_map (map f) (option_and_then (patch_rows rs) o)
      by None x is rest some = absurd some
      by (Some q) x is rest some =
          ap (option_and_then (patch_rows (map mapped_row rs))) (is tt) ∙ rest q some

  -- what rows make of lines, they make of changed lines where their own are changed alike
  pub patched-mapped : (ls us : List (List ℕ)) (rows : List NumberedRow)
      → patched ls rows ≡ Some us
      → patched (map f ls) (map mapped_row rows) ≡ Some (map f us)
  patched-mapped ls us rows is =
      let some : HasValue (patched ls rows) = subst HasValue (sym is) tt in
      rows-mapped rows (record { written = []; passed = 0; left = ls }) some
      ∙ ap (option_map (map f)) is
