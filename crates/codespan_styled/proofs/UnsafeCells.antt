-- A character that is left out takes no cell, and one that is replaced takes one, so the others
-- keep their columns: for the clauses of `terminal::laws::columns_stay` and
-- `svg::laws::characters_are_in_their_columns`, and the clause `columns` of `to_html`.
use Rattle.std.proofs.Common.{◌≡◌, ℕ, zero, suc, ◌+◌, ◌*◌, ◌/◌, ◌%◌}
use Rattle.std.proofs.Common.{◌<◌, ◌≤◌, ◌⊎◌}
use Rattle.std.proofs.Common.{Bool, true, false, ◌&&◌, ◌||◌, ◌==◌, nat_le}
use Rattle.std.proofs.Common.{List, [], ◌∷◌, Option, None, Some, unwrap_or, refl, sym, ap}
use Rattle.std.proofs.Common.{subst, ◌∙◌, arith, ⊎_elim, inl, inr, add-zero}
use Rattle.std.specs.Prelude.{if◌then◌else◌}
use Rattle.std.specs.Int.{is_in_range}
use Rattle.std.specs.List.{cons_option}
use Rattle.std.specs.Option.{option_map}
use Rattle.std.proofs.Math.Nat.{eq-or-lt_of_le}
use Rattle.std.proofs.lemmas.Bool.{and_parts, cond_both, ne_eqb, or_cases}
use Rattle.std.proofs.lemmas.Bool.Decides.{nat_tests}
use Rattle.unicode_width.specs.Width.{char_width}
use Rattle.unicode_width.proofs.Computing.{unicode_width}
use Rattle.codespan_styled.specs.SafeText.{CharacterInColumn, column_after, columns}
use Rattle.codespan_styled.specs.SafeText.{is_directional_control, is_invisible, is_left_out}
use Rattle.codespan_styled.specs.SafeText.{is_noncharacter, is_replaced, is_separator}
use Rattle.codespan_styled.specs.SafeText.{is_unsafe_control, safe_characters, shown_character}
use Rattle.codespan_styled.specs.SafeText.{shown_columns}

-- the cells of a character that is no tab
abbrev cells_of : ℕ → ℕ
cells_of c = unwrap_or (char_width false c) 0

-- the character has no cells, or one
abbrev is_empty : ℕ → Bool
is_empty c = cells_of c == 0

abbrev is_single : ℕ → Bool
is_single c = cells_of c == 1

-- the test passes for n numbers from a on
abbrev passes_from : (ℕ → Bool) → ℕ → ℕ → Bool
passes_from p zero a = true
passes_from p (suc n) a = p a && passes_from p n (suc a)

-- so it passes for each of them
passes_at : (p : ℕ → Bool) (n a c : ℕ) → passes_from p n a ≡ true → a ≤ c
    → c < a + n → p c ≡ true
passes_at p zero a c h low high = absurd (omega arith)
passes_at p (suc n) a c h low high =
    let parts = and_parts (p a) (passes_from p n (suc a)) h in
    ⊎_elim (λ (e : a ≡ c). subst (λ x. p x ≡ true) e parts.0)
    (λ (above : a < c). passes_at p n (suc a) c parts.1 (omega arith) (omega arith))
    (eq-or-lt_of_le low)

-- a number of a range is counted from its start
within : (p : ℕ → Bool) (n a b c : ℕ) → passes_from p n a ≡ true → b + 1 ≡ a + n
    → is_in_range a b c ≡ true → p c ≡ true
within p n a b c h e inside =
    let parts = and_parts (nat_le a c) (nat_le c b) inside in
    let low : a ≤ c = grind (arith, nat_tests) in
    let high : c ≤ b = grind (arith, nat_tests) in
    passes_at p n a c h low (omega arith)

-- a number that passes
at_code : (p : ℕ → Bool) (c n : ℕ) → p n ≡ true → (c == n) ≡ true → p c ≡ true
at_code p c n h e =
    let is : c ≡ n = grind (arith, nat_tests) in
    subst (λ x. p x ≡ true) (sym is) h

-- a test that passes
pub number_of : (m n : ℕ) → (m == n) ≡ true → m ≡ n
number_of m n h = grind (arith, nat_tests)

-- ---- characters that are left out

-- a control character has no cells
empty_control : (c : ℕ) → is_unsafe_control c ≡ true → cells_of c ≡ 0
unfolding char_width
empty_control c h = grind (arith, nat_tests)

empty_letter_mark : passes_from is_empty 1 0x061C ≡ true
unfolding unicode_width
empty_letter_mark = refl

empty_direction_marks : passes_from is_empty 2 0x200E ≡ true
unfolding unicode_width
empty_direction_marks = refl

empty_embeddings : passes_from is_empty 5 0x202A ≡ true
unfolding unicode_width
empty_embeddings = refl

empty_isolates : passes_from is_empty 4 0x2066 ≡ true
unfolding unicode_width
empty_isolates = refl

-- a directional control has no cells
empty_directional : (c : ℕ) → is_directional_control c ≡ true → is_empty c ≡ true
empty_directional c h =
    let letter_mark = is_in_range 0x061C 0x061C c in
    let direction_marks = is_in_range 0x200E 0x200F c in
    let embeddings = is_in_range 0x202A 0x202E c in
    let isolates = is_in_range 0x2066 0x2069 c in
    elim (or_cases (letter_mark || direction_marks || embeddings) isolates h) [
      | inl early ↦ elim (or_cases (letter_mark || direction_marks) embeddings early) [
        | inl marks ↦ elim (or_cases letter_mark direction_marks marks) [
          | inl p ↦ within is_empty 1 0x061C 0x061C c empty_letter_mark refl p
          | inr p ↦ within is_empty 2 0x200E 0x200F c empty_direction_marks refl p
        ]
        | inr p ↦ within is_empty 5 0x202A 0x202E c empty_embeddings refl p
      ]
      | inr p ↦ within is_empty 4 0x2066 0x2069 c empty_isolates refl p
    ]

empty_soft_hyphen : is_empty 0x00AD ≡ true
unfolding unicode_width
empty_soft_hyphen = refl

empty_joiner : is_empty 0x200D ≡ true
unfolding unicode_width
empty_joiner = refl

empty_filler : is_empty 0x3164 ≡ true
unfolding unicode_width
empty_filler = refl

empty_byte_order_mark : is_empty 0xFEFF ≡ true
unfolding unicode_width
empty_byte_order_mark = refl

empty_narrow_filler : is_empty 0xFFA0 ≡ true
unfolding unicode_width
empty_narrow_filler = refl

-- an invisible character has no cells
empty_invisible : (c : ℕ) → is_invisible c ≡ true → is_empty c ≡ true
empty_invisible c h =
    let first_two = (c == 0x00AD) || (c == 0x200D) in
    let first_four = first_two || (c == 0x3164) || (c == 0xFEFF) in
    elim (or_cases first_four (c == 0xFFA0) h) [
      | inl four ↦ elim (or_cases (first_two || (c == 0x3164)) (c == 0xFEFF) four) [
        | inl three ↦ elim (or_cases first_two (c == 0x3164) three) [
          | inl two ↦ elim (or_cases (c == 0x00AD) (c == 0x200D) two) [
            | inl e ↦ at_code is_empty c 0x00AD empty_soft_hyphen e
            | inr e ↦ at_code is_empty c 0x200D empty_joiner e
          ]
          | inr e ↦ at_code is_empty c 0x3164 empty_filler e
        ]
        | inr e ↦ at_code is_empty c 0xFEFF empty_byte_order_mark e
      ]
      | inr e ↦ at_code is_empty c 0xFFA0 empty_narrow_filler e
    ]

-- a character that is left out has no cells
left_out_cells : (c : ℕ) → is_left_out c ≡ true → cells_of c ≡ 0
left_out_cells c h =
    let control = is_unsafe_control c in
    let directional = is_directional_control c in
    elim (or_cases (control || directional) (is_invisible c) h) [
      | inl early ↦ elim (or_cases control directional early) [
        | inl e ↦ empty_control c e
        | inr e ↦ number_of (cells_of c) 0 (empty_directional c e)
      ]
      | inr e ↦ number_of (cells_of c) 0 (empty_invisible c e)
    ]

-- ---- characters that are replaced

single_arabic : passes_from is_single 32 0xFDD0 ≡ true
unfolding unicode_width
single_arabic = refl

-- the last two of a plane
abbrev ends_single : ℕ → Bool
ends_single plane =
    is_single (0x10000 * plane + 0xFFFE) && is_single (0x10000 * plane + 0xFFFF)

single_ends : passes_from ends_single 17 0 ≡ true
unfolding unicode_width
single_ends = refl

last_of_plane : (c : ℕ) → (nat_le c 0x10FFFF && nat_le 0xFFFE (c % 0x10000)) ≡ true
    → is_single c ≡ true
last_of_plane c h =
    let parts = and_parts (nat_le c 0x10FFFF) (nat_le 0xFFFE (c % 0x10000)) h in
    let small : c ≤ 0x10FFFF = grind (arith, nat_tests) in
    let last : 0xFFFE ≤ c % 0x10000 = grind (arith, nat_tests) in
    let plane = c / 0x10000 in
    let both = passes_at ends_single 17 0 plane single_ends (omega arith) (omega arith) in
    let ends = and_parts (is_single (0x10000 * plane + 0xFFFE))
    (is_single (0x10000 * plane + 0xFFFF)) both in
    let which : (c ≡ 0x10000 * plane + 0xFFFE) ⊎ (c ≡ 0x10000 * plane + 0xFFFF) =
    ⊎_elim (λ (e : 0xFFFE ≡ c % 0x10000). inl (omega arith))
    (λ (e : 0xFFFE < c % 0x10000). inr (omega arith)) (eq-or-lt_of_le last) in
    ⊎_elim (λ e. subst (λ x. is_single x ≡ true) (sym e) ends.0)
    (λ e. subst (λ x. is_single x ≡ true) (sym e) ends.1) which

single_noncharacter : (c : ℕ) → is_noncharacter c ≡ true → is_single c ≡ true
single_noncharacter c h =
    ⊎_elim (within is_single 32 0xFDD0 0xFDEF c single_arabic refl) (last_of_plane c)
    (or_cases (is_in_range 0xFDD0 0xFDEF c)
    (nat_le c 0x10FFFF && nat_le 0xFFFE (c % 0x10000)) h)

single_line_ends : passes_from is_single 2 0x2028 ≡ true
unfolding unicode_width
single_line_ends = refl

single_annotations : passes_from is_single 3 0xFFF9 ≡ true
unfolding unicode_width
single_annotations = refl

single_separator : (c : ℕ) → is_separator c ≡ true → is_single c ≡ true
single_separator c h =
    ⊎_elim (within is_single 2 0x2028 0x2029 c single_line_ends refl)
    (within is_single 3 0xFFF9 0xFFFB c single_annotations refl)
    (or_cases (is_in_range 0x2028 0x2029 c) (is_in_range 0xFFF9 0xFFFB c) h)

-- a character that is replaced has one cell
replaced_cells : (c : ℕ) → is_replaced c ≡ true → cells_of c ≡ 1
replaced_cells c h =
    number_of (cells_of c) 1
    (⊎_elim (single_noncharacter c) (single_separator c)
    (or_cases (is_noncharacter c) (is_separator c) h))

-- and so has U+FFFD
replacement_cells : cells_of 0xFFFD ≡ 1
unfolding unicode_width
replacement_cells = refl

-- ---- columns

-- neither a tab nor a newline passes the test
no_spacing : (p : ℕ → Bool) (c n : ℕ) → p n ≡ false → p c ≡ true
    → (c == n) ≡ false
no_spacing p c n fails passes =
    ne_eqb c n
    (λ (e : c ≡ n). let bad : false ≡ true = sym fails
    ∙ subst (λ x. p x ≡ true) e passes in
    cc bad)

module _ (tab_width column : ℕ) where
  -- the column after what is shown for a character is the column after it
  abbrev After : ℕ → Option ℕ → Type 0
  After c None = column_after tab_width column c ≡ column
  After c (Some s) = column_after tab_width column s ≡ column_after tab_width column c

  -- the column after a character that is left out is the same
  left_out_column : (c : ℕ) → is_left_out c ≡ true → After c None
  left_out_column c h =
      let newline = no_spacing is_left_out c 10 refl h in
      let tab = no_spacing is_left_out c 9 refl h in
      rw (newline, tab, left_out_cells c h) (add-zero column)

  -- that after a character that is replaced is the next
  replaced_column : (c : ℕ) → is_replaced c ≡ true → After c (Some 0xFFFD)
  replaced_column c h =
      let newline = no_spacing is_replaced c 10 refl h in
      let tab = no_spacing is_replaced c 9 refl h in
      rw (newline, tab, replaced_cells c h, replacement_cells) refl

  after_shown : (c : ℕ) → After c (shown_character c)
  after_shown c =
      cond_both (is_left_out c) None (if is_replaced c then Some 0xFFFD else Some c) (After c)
      (left_out_column c)
      (λ _. cond_both (is_replaced c) (Some 0xFFFD) (Some c) (After c) (replaced_column c)
      (λ _. refl))

  -- a step of the law, by what is shown for the character
  columns_step : (c : ℕ) (cs : List ℕ) (o : Option ℕ) → After c o
      → ((at : ℕ) → columns tab_width at (safe_characters cs)
      ≡ shown_columns tab_width at cs)
      → columns tab_width column (cons_option o (safe_characters cs))
      ≡ cons_option (option_map (λ (s : ℕ). (s, column)) o)
      (shown_columns tab_width (column_after tab_width column c) cs)
  columns_step c cs None after rest =
      rest column ∙ ap (λ at. shown_columns tab_width at cs) (sym after)
  columns_step c cs (Some s) after rest =
      ap (λ (l : List CharacterInColumn). (s, column) ∷ l)
      (rest (column_after tab_width column s)
      ∙ ap (λ at. shown_columns tab_width at cs) after)

-- what is shown has the columns of what it is shown for
pub columns_stay : (tab_width column : ℕ) (cs : List ℕ)
    → columns tab_width column (safe_characters cs) ≡ shown_columns tab_width column cs
columns_stay tab_width column [] = refl
columns_stay tab_width column (c ∷ cs) =
    columns_step tab_width column c cs (shown_character c) (after_shown tab_width column c)
    (λ at. columns_stay tab_width at cs)
