-- `lines_from` makes of annotations in order the snippet lines of the lines that have annotations,
-- from the first on: for the clauses of `render_lines` and `render_snippets`.
use Rattle.codespan_core.proofs.Std.{nat_le, nat_tests, take-append_seam, length, common_steps}
use Rattle.codespan_core.proofs.Std.{◌≡◌, ℕ, zero, suc, ◌+◌, ◌<◌, ◌≤◌, Bool}
use Rattle.codespan_core.proofs.Std.{true, false, cond, ◌==◌, List, [], ◌∷◌, ◌++◌}
use Rattle.codespan_core.proofs.Std.{take, drop, filter, Option, Some, None, ⊎_elim, refl, sym}
use Rattle.codespan_core.proofs.Std.{◌∙◌, ap, arith, prefix_len, range_with_len}
use Rattle.codespan_core.proofs.Std.{AllByRecursion, cases_Bool, eqb-true, eq-eqb}
use Rattle.std.proofs.Math.Seq.{drop-append_seam}
use Rattle.codespan_output.specs.Sequences.{gap_between, in_sequence}
use Rattle.codespan_views.specs.Private.{shows_line, Annotation, is_on_line, SnippetLine, Labeled}
use Rattle.codespan_views.specs.Private.{Filled, Break, groups, lines_between, lines_from, lines_of}
use Rattle.codespan_output.proofs.Utf8.ListElements.{all-pass, all-weaker, filter-nothing}
use Rattle.codespan_output.specs.Private.LineRows.{before_line}

-- ---- groups

-- the first group is the first annotation with what follows it on its line
pub groups-cons : (x : Annotation) (xs : List Annotation)
    → groups (x ∷ xs) ≡ (x ∷ take (prefix_len (is_on_line x.line) xs) xs)
    ∷ groups (drop (prefix_len (is_on_line x.line) xs) xs)
groups-cons x [] = refl
groups-cons x (y ∷ ys) =
    ⊎_elim
    (λ t. let e : y.line ≡ x.line = eqb-true y.line x.line t in
    let k = ap (λ n. prefix_len (is_on_line n) ys) e in
    let plus : 1 + prefix_len (is_on_line x.line) ys ≡ suc (prefix_len (is_on_line x.line) ys) =
    omega arith in
    rw (groups-cons y ys, t, k, plus) refl)
    (λ (f : (y.line == x.line) ≡ false).
    let none : prefix_len (is_on_line x.line) (y ∷ ys) ≡ 0 = rw f refl in
    let first = groups-cons y ys in
    rw none (grind (arith, common_steps)))
    (cases_Bool (y.line == x.line))

-- ---- numbers that do not decrease along a list

-- the number does not decrease from an element to a later one
abbrev pub IsRising : {X : Type 0} → (X → ℕ) → List X → Type 0
IsRising n [] = Unit {0}
IsRising n (x ∷ xs) = AllByRecursion (λ y. n x ≤ n y) xs × IsRising n xs

-- a number is not one below it
not_equal : (a b : ℕ) → a < b → (b == a) ≡ false
not_equal a b h = grind (arith, common_steps, eqb-true)

-- the elements at this number and above it
abbrev pub from_number : {X : Type 0} → (X → ℕ) → ℕ → List X → List X
from_number {X} n k xs = filter (λ (x : X). nat_le k (n x)) xs

-- those at it are in front of those above it
pub from_number-next : {X : Type 0} (n : X → ℕ) (k : ℕ) (xs : List X) → IsRising n xs
    → from_number n k xs ≡ filter (λ x. n x == k) xs ++ from_number n (k + 1) xs
from_number-next n k [] h = refl
from_number-next n k (x ∷ xs) h =
    let none = λ (b : k < n x). filter-nothing (λ y. n y == k) xs
    (all-weaker (λ y. n x ≤ n y) (λ y. (n y == k) ≡ false)
    (λ y q. not_equal k (n y) (omega arith)) xs h.0) in
    grind (arith, common_steps, nat_tests, none, from_number-next n k xs h.1)

-- all are at 0 or above it
pub from_number-first : {X : Type 0} (n : X → ℕ) (xs : List X) → xs ≡ from_number n 0 xs
from_number-first n [] = refl
from_number-first n (x ∷ xs) = grind (arith, common_steps, nat_tests, from_number-first n xs)

-- ---- groups by lines

-- what passes in front of what does not
pub prefix-append : (p : Annotation → Bool) (a b : List Annotation)
    → AllByRecursion (λ e. p e ≡ true) a → AllByRecursion (λ e. p e ≡ false) b
    → prefix_len p (a ++ b) ≡ length a
prefix-append p [] [] h k = refl
prefix-append p [] (y ∷ b) h k = ap (λ t. cond t (1 + prefix_len p b) 0) k.0
prefix-append p (x ∷ a) b h k = grind (arith, common_steps, prefix-append p a b, nat_tests)

-- annotations of one line in front of annotations of later lines are a group
groups-append : (k : ℕ) (g ys : List Annotation) → AllByRecursion (λ e. e.line ≡ k) g
    → AllByRecursion (λ e. k < e.line) ys → (previous : Option ℕ) (hidden : List Annotation)
    → lines_from previous hidden (groups (g ++ ys))
    ≡ lines_from previous hidden (g ∷ groups ys)
groups-append k [] ys h up previous hidden = refl
groups-append k (x ∷ g) ys h up previous hidden =
    let front = all-weaker (λ e. e.line ≡ k) (λ e. is_on_line x.line e ≡ true)
    (λ e q. eq-eqb e.line x.line (q ∙ sym h.0)) g h.1 in
    let later = all-weaker (λ e. k < e.line) (λ e. is_on_line x.line e ≡ false)
    (λ e q. not_equal x.line e.line (omega (arith, h.0))) ys up in
    rw (
      groups-cons x (g ++ ys),
      prefix-append (is_on_line x.line) g ys front later,
      take-append_seam g ys,
      drop-append_seam g ys,
    )
    refl

-- what is kept for its line is of that line
pub all-on_line : (a : ℕ) (xs : List Annotation)
    → AllByRecursion (λ e. e.line ≡ a) (filter (is_on_line a) xs)
all-on_line a xs = grind (arith, common_steps, eqb-true, all-weaker, all-pass)

-- ---- `lines_from` over groups of lines

-- the line of these annotations, which are in order, is shown: the first of them makes it so
abbrev pub are_shown : List Annotation → Bool
are_shown [] = false
are_shown (x ∷ xs) = shows_line x

-- the snippet lines of these shown lines, where each line has these annotations and `previous` is
-- shown before them
abbrev pub lines_after : (ℕ → List Annotation) → Option ℕ → List ℕ → List SnippetLine
lines_after m =
    in_sequence (λ l. l) (gap_between (λ l. Filled l (m l) ∷ []) (λ d. Break (m d) ∷ []))
    (λ l. Labeled l (m l) ∷ [])

-- these are the annotations of the line before line `a`, where that is not shown, and `previous` is
-- shown before it
abbrev IsHidden : (ℕ → List Annotation) → Option ℕ → ℕ → List Annotation → Type 0
IsHidden m None a hidden = Unit {0}
IsHidden m (Some c) a hidden =
    (c < a) × (c + 1 ≡ a → hidden ≡ []) × (c + 2 ≡ a → hidden ≡ m (c + 1))

-- what is before a shown line
before-shown : (m : ℕ → List Annotation) (previous : Option ℕ) (a : ℕ)
    (hidden : List Annotation)
    → IsHidden m previous a hidden
    → before_line (lines_between hidden (m a)) previous a ≡ before_line
    (gap_between (λ l. Filled l (m l) ∷ []) (λ d. Break (m d) ∷ [])) previous a
before-shown m previous a hidden h = grind (arith, common_steps, eqb-true)

-- the next line's are these, where they are its own if the one before has none
hidden-next : (m : ℕ → List Annotation) (previous : Option ℕ) (a : ℕ)
    (hidden next : List Annotation)
    → IsHidden m previous a hidden → (hidden ≡ [] → next ≡ m a)
    → IsHidden m previous (a + 1) next
hidden-next m previous a hidden next h own = grind (arith, common_steps)

-- nothing is hidden after a shown line
hidden-none : (m : ℕ → List Annotation) (a : ℕ) → IsHidden m (Some a) (a + 1) []
hidden-none m a = (omega arith, λ q. refl, λ q. absurd (omega (arith, q)))

module _ (xs : List Annotation) (up : IsRising (λ e. e.line) xs) where
  -- the annotations of a line
  abbrev on_line : ℕ → List Annotation
  on_line l = filter (is_on_line l) xs

  -- of annotations whose lines do not decrease, from line `a` on, `lines_from` makes the snippet
  -- lines of those that are shown
  lines_from-lines : (n a : ℕ) → AllByRecursion (λ e. e.line < a + n) xs
      → (previous : Option ℕ)
      → (hidden : List Annotation) → IsHidden on_line previous a hidden
      → lines_from previous hidden (groups (from_number (λ e. e.line) a xs))
      ≡ lines_after on_line previous (filter (λ l. are_shown (on_line l)) (range_with_len a n))
  lines_from-lines zero a high previous hidden is =
      rw (filter-nothing (λ e. nat_le a e.line) xs
      (all-weaker (λ e. e.line < a + 0) (λ e. nat_le a e.line ≡ false)
      (λ e q. grind (arith, nat_tests)) xs high)) refl
  lines_from-lines (suc n) a high previous hidden is =
      ap (λ es. lines_from previous hidden (groups es))
      (from_number-next (λ (e : Annotation). e.line) a xs up)
      ∙ groups-append a (on_line a) ys (all-on_line a xs)
      (all-weaker (λ e. nat_le (a + 1) e.line ≡ true) (λ e. a < e.line)
      (λ e q. grind (arith, nat_tests)) ys (all-pass (λ e. nat_le (a + 1) e.line) xs))
      previous hidden
      ∙ by_annotations (lines_from-lines n (a + 1) (all-weaker (λ e. e.line < a + suc n)
      (λ e. e.line < a + 1 + n) (λ e q. omega arith) xs high)) (on_line a) refl (all-on_line a xs)
    where
      ys : List Annotation
      ys = from_number (λ e. e.line) (a + 1) xs

      ds : List ℕ
      ds = filter (λ l. are_shown (on_line l)) (range_with_len (a + 1) n)

      by_annotations : ((w : Option ℕ) (es : List Annotation) → IsHidden on_line w (a + 1) es
          → lines_from w es (groups ys) ≡ lines_after on_line w ds) → (es : List Annotation)
          → on_line a ≡ es → AllByRecursion (λ e. e.line ≡ a) es
          → lines_from previous hidden (es ∷ groups ys)
          ≡ lines_after on_line previous (cond (are_shown es) (a ∷ ds) ds)
      by_annotations rest [] e on = rest previous hidden
          (hidden-next on_line previous a hidden hidden is (λ none. none ∙ sym e))
      by_annotations rest (x ∷ es) e on = grind
          (arith, common_steps, before-shown, hidden-none, hidden-next, on.0)

-- the snippet lines of annotations whose lines do not decrease, and are all below n, are those of
-- the lines that are shown
pub snippet_lines-by_line : (n : ℕ) (xs : List Annotation) → IsRising (λ e. e.line) xs
    → AllByRecursion (λ e. e.line < n) xs
    → lines_of xs ≡ lines_after (λ l. filter (is_on_line l) xs) None
    (filter (λ l. are_shown (filter (is_on_line l) xs)) (range_with_len 0 n))
snippet_lines-by_line n xs up high =
    ap (λ es. lines_from None [] (groups es)) (from_number-first (λ (e : Annotation). e.line) xs)
    ∙ lines_from-lines xs up n 0
    (all-weaker (λ e. e.line < n) (λ e. e.line < 0 + n) (λ e q. omega arith) xs high) None [] tt
