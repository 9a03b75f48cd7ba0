-- For `pointers_are_cells`: pointers are in the first cells of the characters in which hanging
-- labels start.
use Rattle.codespan_core.proofs.Std.{◌≡◌, ℕ, zero, suc, ◌+◌, ◌-◌, ◌<◌}
use Rattle.codespan_core.proofs.Std.{◌≤◌, Bool, true, false, ◌&&◌, ◌==◌, cond, nat_lt}
use Rattle.codespan_core.proofs.Std.{nat_le, List, [], ◌∷◌, ◌++◌, map, filter, flat_map}
use Rattle.codespan_core.proofs.Std.{replicate, refl, ap, ap₂, ◌∙◌, arith, ⊎_elim}
use Rattle.codespan_core.proofs.Std.{if◌then◌else◌, Contains, range_with_len, list_any}
use Rattle.codespan_core.proofs.Std.{or_cases, nat_tests, map-append, sum_by-cons, list_any_at}
use Rattle.std.proofs.Math.Bool.{and-false}
use Rattle.codespan_core.specs.Labels.{LabelModel}
use Rattle.codespan_output.specs.Types.{Chars, Metrics}
use Rattle.codespan_output.specs.{width_of, points_at, hanging_labels, starts_in, max_label_start}
use Rattle.codespan_output.specs.{metrics_before}
use Rattle.codespan_output.proofs.Carets.Cells.{range_with_len-append, map-range_with_len}
use Rattle.codespan_output.proofs.Carets.Cells.{map-constant}
use Rattle.codespan_output.proofs.Pointers.HangingStarts.{any-hanging_labels, any-below}
use Rattle.codespan_output.proofs.Pointers.HangingStarts.{starts_in-low}
use Rattle.codespan_output.proofs.Characters.Consecutive.{AreConsecutive, none-before}

-- ---- members

pub contains-later : {X : Type 0} (y x : X) (xs : List X) → Contains xs x
    → Contains (y ∷ xs) x
contains-later y x xs h = (suc h.0, omega (arith, h.1), h.2)

pub some_in : {X : Type 0} (p : X → Bool) (xs : List X) → list_any p xs ≡ true
    → (x : X) × Contains xs x × (p x ≡ true)
some_in p [] h = cc
some_in p (x ∷ xs) h =
    ⊎_elim (λ here. (x, (0, omega arith, refl), here))
    (λ later. let r = some_in p xs later in (r.0, contains-later x r.0 xs r.1, r.2))
    (or_cases (p x) (list_any p xs) h)

pub any_in : {X : Type 0} (p : X → Bool) (xs : List X) (x : X) → Contains xs x → p x ≡ true
    → list_any p xs ≡ true
any_in p xs x h holds = list_any_at p xs h.0 x h.1 (ap p h.2 ∙ holds)

-- ---- consecutive characters

byte_index-low : (byte_index column : ℕ) (cs : List Metrics) (c : Metrics)
    → AreConsecutive byte_index column cs → Contains cs c → byte_index ≤ c.byte_index
byte_index-low byte_index column [] c adjacent h = absurd (omega (arith, h.1))
byte_index-low byte_index column (d ∷ ds) c adjacent (zero, h, e) =
    let same = ap (λ (y : Metrics). y.byte_index) e in omega (arith, same, adjacent.0)
byte_index-low byte_index column (d ∷ ds) c adjacent (suc k, h, e) =
    let more = byte_index-low (byte_index + d.bytes) (column + d.unicode_width) ds c adjacent.3
    (k, omega (arith, h), e) in
    omega (arith, more)

-- the widths of the characters before one sum to its column
pub column-at : (byte_index column : ℕ) (cs : List Metrics) (c : Metrics)
    → AreConsecutive byte_index column cs → Contains cs c
    → column + width_of (metrics_before c.byte_index cs) ≡ c.column
column-at byte_index column [] c adjacent h = absurd (omega (arith, h.1))
column-at byte_index column (d ∷ ds) c adjacent (zero, h, e) =
    let same_byte_index = ap (λ (y : Metrics). y.byte_index) e in
    let same_column = ap (λ (y : Metrics). y.column) e in
    let none : metrics_before c.byte_index (d ∷ ds) ≡ [] =
    none-before (λ q. nat_lt q c.byte_index) byte_index column (d ∷ ds) adjacent
    (λ q low. let at_byte_index = adjacent.0 in grind (arith, nat_tests)) in
    rw none (omega (arith, same_column, adjacent.1))
column-at byte_index column (d ∷ ds) c adjacent (suc k, h, e) =
    let low = byte_index-low (byte_index + d.bytes) (column + d.unicode_width) ds c adjacent.3
    (k, omega (arith, h), e) in
    let before : nat_lt d.byte_index c.byte_index ≡ true =
    (let at_byte_index = adjacent.0 in let some = adjacent.2 in grind (arith, nat_tests)) in
    let more = column-at (byte_index + d.bytes) (column + d.unicode_width) ds c adjacent.3
    (k, omega (arith, h), e) in
    rw before
    (omega (
      arith,
      more,
      sum_by-cons (λ (y : Metrics). y.unicode_width) d (metrics_before c.byte_index ds),
    ))

-- ---- what the characters show

module _ (chars : Chars) (labels : List LabelModel) where
  abbrev reach : ℕ
  reach = max_label_start labels

  abbrev pub points : Metrics → Bool
  points c = list_any (starts_in c) (hanging_labels labels)

  -- the codes of one character
  abbrev pub codes_at : Metrics → List ℕ
  codes_at c =
      cond (points c)
      (chars.pointer_left
      ∷ cond (nat_le c.byte_index reach) (replicate (c.unicode_width - 1) 32) [])
      (cond (nat_le c.byte_index reach) (replicate c.unicode_width 32) [])

  -- the code of one cell
  abbrev pub code_of : List Metrics → ℕ → ℕ
  code_of cs k = if points_at labels cs k then chars.pointer_left else 32

  abbrev pub IsWide : List Metrics → Type 0
  IsWide [] = Unit {0}
  IsWide (c ∷ cs) = (points c ≡ true → 0 < c.unicode_width) × IsWide cs

  points-near : (c : Metrics) → points c ≡ true → c.byte_index ≤ reach
  points-near c h =
      any-below 0 c.byte_index (starts_in c) labels (starts_in-low c)
      (any-hanging_labels (starts_in c) labels h)

  -- no character begins left of the first one's column
  points-later : (byte_index column k : ℕ) (cs : List Metrics)
      → AreConsecutive byte_index column cs
      → k < column → points_at labels cs k ≡ false
  points-later byte_index column k [] adjacent low = refl
  points-later byte_index column k (c ∷ cs) adjacent low =
      let other : (c.column == k) ≡ false =
      (let at_column = adjacent.1 in grind (arith, nat_tests)) in
      simp other
      (points-later (byte_index + c.bytes) (column + c.unicode_width) k cs adjacent.3
      (omega arith))

  -- the cells of the first character
  first-codes : (byte_index column : ℕ) (c : Metrics) (cs : List Metrics)
      → AreConsecutive byte_index column (c ∷ cs)
      → (points c ≡ true → 0 < c.unicode_width)
      → c.byte_index ≤ reach
      → map (code_of (c ∷ cs)) (range_with_len column c.unicode_width) ≡ codes_at c
  first-codes byte_index column c cs adjacent wide low = by_points (points c) refl
    where
      near : nat_le c.byte_index reach ≡ true
      near = grind (arith, nat_tests)

      no_later : (k : ℕ) → k < column + c.unicode_width → points_at labels cs k ≡ false
      no_later k high =
          points-later (byte_index + c.bytes) (column + c.unicode_width) k cs adjacent.3 high

      by_width : (w : ℕ) → c.unicode_width ≡ w → points c ≡ true → 0 < w
          → map (code_of (c ∷ cs)) (range_with_len column w)
          ≡ chars.pointer_left ∷ replicate
          (w - 1) 32
      by_width zero is holds some = absurd (omega arith)
      by_width (suc v) is holds some =
          let e : suc v - 1 ≡ v = omega arith in
          let here : (c.column == column) ≡ true =
          (let at_column = adjacent.1 in grind (arith, nat_tests)) in
          let first : code_of (c ∷ cs) column ≡ chars.pointer_left = simp (here, holds) in
          rw e (ap₂ (λ x xs. x ∷ xs) first
          (map-range_with_len (code_of (c ∷ cs)) (λ _. 32) (column + 1) v
          (λ k low high.
          let other : (c.column == k) ≡ false =
          (let at_column = adjacent.1 in grind (arith, nat_tests)) in
          let later = no_later k (omega (arith, is)) in
          simp (other, later))
          ∙ map-constant 32 (column + 1) v))

      by_points : (b : Bool) → points c ≡ b
          → map (code_of (c ∷ cs)) (range_with_len column c.unicode_width)
          ≡ cond b
          (chars.pointer_left
          ∷ cond (nat_le c.byte_index reach) (replicate (c.unicode_width - 1) 32) [])
          (cond (nat_le c.byte_index reach) (replicate c.unicode_width 32) [])
      by_points true holds = rw near (by_width c.unicode_width refl holds (wide holds))
      by_points false fails =
          rw near (map-range_with_len (code_of (c ∷ cs)) (λ _. 32) column c.unicode_width
          (λ k low high.
          let later = no_later k high in
          let none : ((c.column == k) && points c)
          ≡ false = rw fails (and-false (c.column == k)) in
          simp (none, later))
          ∙ map-constant 32 column c.unicode_width)

  -- the codes of the characters that begin up to some byte index, at most the greatest start
  pub char_metrics-codes : (near : ℕ → Bool) → ((q : ℕ) → near q ≡ true → q ≤ reach)
      → ((p q : ℕ) → near p ≡ false → p ≤ q → near q ≡ false)
      → (byte_index column : ℕ) (cs : List Metrics) → AreConsecutive byte_index column cs
      → IsWide cs
      → map (code_of cs)
      (range_with_len column (width_of (filter (λ (c : Metrics). near c.byte_index) cs)))
      ≡ flat_map codes_at (filter (λ (c : Metrics). near c.byte_index) cs)
  char_metrics-codes near low down byte_index column [] adjacent wide = refl
  char_metrics-codes near low down byte_index column (c ∷ cs) adjacent wide =
      by_test
      (char_metrics-codes near low down (byte_index + c.bytes) (column + c.unicode_width) cs
      adjacent.3 wide.1)
      (near c.byte_index) refl
    where
      later : List Metrics
      later = filter (λ (d : Metrics). near d.byte_index) cs

      by_test : map (code_of cs)
          (range_with_len (column + c.unicode_width) (width_of later)) ≡ flat_map codes_at later
          → (b : Bool) → near c.byte_index ≡ b
          → map (code_of (c ∷ cs))
          (range_with_len column (width_of (cond b (c ∷ later) later)))
          ≡ flat_map codes_at (cond b (c ∷ later) later)
      by_test rest true is =
          ap (λ n. map (code_of (c ∷ cs)) (range_with_len column n))
          (sum_by-cons (λ (d : Metrics). d.unicode_width) c later)
          ∙ ap (map (code_of (c ∷ cs)))
          (range_with_len-append column c.unicode_width (width_of later))
          ∙ map-append (code_of (c ∷ cs)) (range_with_len column c.unicode_width)
          (range_with_len (column + c.unicode_width) (width_of later))
          ∙ ap₂ (λ xs ys. xs ++ ys)
          (first-codes byte_index column c cs adjacent wide.0 (low c.byte_index is))
          (map-range_with_len (code_of (c ∷ cs)) (code_of cs) (column + c.unicode_width)
          (width_of later)
          (λ k after high. ap (λ b. cond b chars.pointer_left 32) (past k after))
          ∙ rest)
        where
          and_second : (b d : Bool) → (d ≡ true → b ≡ false) → (b && d) ≡ false
          and_second true true h = h refl
          and_second true false h = refl
          and_second false d h = refl

          past : (k : ℕ) → column + c.unicode_width ≤ k
              → points_at labels (c ∷ cs) k ≡ points_at labels cs k
          past k after =
              let none : ((c.column == k) && points c) ≡ false =
              and_second (c.column == k) (points c)
              (λ holds. let some = wide.0 holds in
              let at_column = adjacent.1 in grind (arith, nat_tests)) in
              simp none
      by_test rest false is =
          let none : later ≡ [] =
          none-before near (byte_index + c.bytes) (column + c.unicode_width) cs adjacent.3
          (λ q after. down c.byte_index q is (let at_byte_index = adjacent.0 in omega arith)) in
          rw none refl

  -- a character that begins after the greatest start shows nothing
  pub far-codes : (cs : List Metrics)
      → flat_map codes_at cs ≡ flat_map codes_at
      (filter (λ (c : Metrics). nat_le c.byte_index reach) cs)
  far-codes [] = refl
  far-codes (c ∷ cs) = by_test (far-codes cs) (nat_le c.byte_index reach) refl
    where
      by_test : flat_map codes_at cs ≡ flat_map codes_at
          (filter (λ (d : Metrics). nat_le d.byte_index reach) cs)
          → (b : Bool) → nat_le c.byte_index reach ≡ b
          → codes_at c ++ flat_map codes_at cs
          ≡ flat_map codes_at
          (cond b (c ∷ filter (λ (d : Metrics). nat_le d.byte_index reach) cs)
          (filter (λ (d : Metrics). nat_le d.byte_index reach) cs))
      by_test rest true is = ap (λ s. codes_at c ++ s) rest
      by_test rest false is = ap (λ s. s ++ flat_map codes_at cs) nothing ∙ rest
        where
          by_points : (d : Bool) → points c ≡ d
              → cond d
              (chars.pointer_left
              ∷ cond (nat_le c.byte_index reach) (replicate (c.unicode_width - 1) 32) [])
              (cond (nat_le c.byte_index reach) (replicate c.unicode_width 32) [])
              ≡ []
          by_points true holds = let low = points-near c holds in absurd (grind (arith, nat_tests))
          by_points false fails = rw is refl

          nothing : codes_at c ≡ []
          nothing = by_points (points c) refl
