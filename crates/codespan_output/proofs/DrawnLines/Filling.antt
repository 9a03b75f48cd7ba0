-- For `rows_are_of_shown_lines`: lines of which some are shown. The elements of the drawn lines, in
-- order, are those of the shown lines and of what is between two of them.
use Rattle.codespan_core.proofs.Std.{◌≡◌, ℕ, zero, suc, ◌+◌, ◌-◌, ◌≤◌, Bool}
use Rattle.codespan_core.proofs.Std.{true, false, cond, ◌==◌, nat_lt, nat_le, ◌&&◌}
use Rattle.codespan_core.proofs.Std.{◌||◌, List, [], ◌∷◌, ◌++◌, filter, Option, Some}
use Rattle.codespan_core.proofs.Std.{None, refl, sym, ap, ◌∙◌, arith, append_assoc}
use Rattle.codespan_core.proofs.Std.{range_with_len, nat_tests, if◌then◌else◌}
use Rattle.std.proofs.Math.Bool.{and-false}
use Rattle.codespan_output.specs.{break_between, gap_between, in_sequence}
use Rattle.codespan_output.specs.Private.{before_line}

-- ---- one line

-- the line is shown, or filled in between two that are
abbrev pub is_drawn_among : (ℕ → Bool) → ℕ → Bool
is_drawn_among shown l = shown l || (nat_lt 0 l && shown (l - 1) && shown (l + 1))

-- a line between two shown ones is drawn
filled-between : (shown : ℕ → Bool) (c : ℕ) → shown c ≡ true
    → shown (c + 1 + 1) ≡ true
    → is_drawn_among shown (c + 1) ≡ true
filled-between shown c before after = by_test (shown (c + 1))
  where
    some : nat_lt 0 (c + 1) ≡ true
    some = grind (arith, nat_tests)

    back : c + 1 - 1 ≡ c
    back = omega arith

    by_test : (b : Bool)
        → (b || (nat_lt 0 (c + 1) && shown (c + 1 - 1) && shown (c + 1 + 1))) ≡ true
    by_test true = refl
    by_test false = rw (some, back) (simp (before, after))

-- a shown line is drawn
filled-shown : (shown : ℕ → Bool) (a : ℕ) → shown a ≡ true
    → is_drawn_among shown a ≡ true
filled-shown shown a h = simp h

-- a line that is not shown, after one that is not, is not drawn
not_filled-after : (shown : ℕ → Bool) (a : ℕ) → shown a ≡ false
    → (nat_lt 0 a && shown (a - 1)) ≡ false → is_drawn_among shown a ≡ false
not_filled-after shown a here before = simp (here, before)

-- a line that is not shown, before one that is not, is not drawn
not_filled-before : (shown : ℕ → Bool) (a : ℕ) → shown a ≡ false
    → shown (a + 1) ≡ false
    → is_drawn_among shown a ≡ false
not_filled-before shown a here after = simp (here, after) (and_last (nat_lt 0 a) (shown (a - 1)))
  where
    and_last : (b d : Bool) → (b && d && false) ≡ false
    and_last true d = and-false d
    and_last false d = refl

-- a test after a line that fails it
after-hidden : (shown : ℕ → Bool) (a : ℕ) → shown a ≡ false
    → (nat_lt 0 (a + 1) && shown (a + 1 - 1)) ≡ false
after-hidden shown a h = let back : a + 1 - 1 ≡ a = omega arith in
    rw back (simp h (and-false (nat_lt 0 (a + 1))))

-- ---- all lines

-- the elements of a shown line, of a filled one and of a break before a line
module _ {X : Type 0} (drawn filled broken : ℕ → List X) where
  -- where no line is filled in, there is a break between two shown lines or nothing
  gap-break : (c d : ℕ) → (d == c + 2) ≡ false
      → gap_between filled broken c d ≡ break_between broken c d
  gap-break c d h = ap (λ b. cond b (filled (c + 1)) (break_between broken c d)) h

  -- there is no break between a line and the next
  break-next : (c : ℕ) → break_between broken c (c + 1) ≡ []
  break-next c = let near : nat_le (c + 3) (c + 1) ≡ false = grind (arith, nat_tests) in
      ap (λ b. cond b (broken (c + 1)) []) near

  -- shown lines, with what is between them
  abbrev expanded_shown : Option ℕ → List ℕ → List X
  expanded_shown = in_sequence (λ l. l) (gap_between filled broken) drawn

  module _ (shown : ℕ → Bool) where
    -- the elements of a drawn line
    abbrev pub given : ℕ → List X
    given l = if shown l then drawn l else filled l

    -- drawn lines, with the breaks between them
    abbrev expanded_lines : Option ℕ → List ℕ → List X
    expanded_lines = in_sequence (λ l. l) (break_between broken) given

    -- the elements of `n` lines from one on, by those of them that are drawn
    abbrev lines_from : Option ℕ → ℕ → ℕ → List X
    lines_from previous a n =
        expanded_lines previous (filter (is_drawn_among shown) (range_with_len a n))

    -- the same, by those of them that are shown
    abbrev shown_from : Option ℕ → ℕ → ℕ → List X
    shown_from previous a n = expanded_shown previous (filter shown (range_with_len a n))

    -- no line is shown from here on
    abbrev NoneFrom : ℕ → Type 0
    NoneFrom a = (l : ℕ) → a ≤ l → shown l ≡ false

    -- a line that is not drawn has no elements
    lines-skip : (previous : Option ℕ) (a n : ℕ) → is_drawn_among shown a ≡ false
        → lines_from previous a (suc n) ≡ lines_from previous (a + 1) n
    lines-skip previous a n h =
        ap (λ b. expanded_lines previous
        (cond b (a ∷ filter (is_drawn_among shown) (range_with_len (a + 1) n))
        (filter (is_drawn_among shown) (range_with_len (a + 1) n)))) h

    -- a drawn line has its own elements
    lines-keep : (previous : Option ℕ) (a n : ℕ) (b : Bool) → is_drawn_among shown a ≡ true
        → shown a ≡ b
        → lines_from previous a (suc n) ≡ before_line (break_between broken) previous a
        ++ cond b
        (drawn a) (filled a) ++ lines_from (Some a) (a + 1) n
    lines-keep previous a n b h k =
        ap (λ t. expanded_lines previous
        (cond t (a ∷ filter (is_drawn_among shown) (range_with_len (a + 1) n))
        (filter (is_drawn_among shown) (range_with_len (a + 1) n)))) h
        ∙ ap
        (λ t. before_line (break_between broken) previous a ++ cond t (drawn a) (filled a)
        ++ lines_from (Some a) (a + 1) n)
        k

    -- a line that is not shown has no elements
    shown-skip : (previous : Option ℕ) (a n : ℕ) → shown a ≡ false
        → shown_from previous a (suc n) ≡ shown_from previous (a + 1) n
    shown-skip previous a n h =
        ap
        (λ b. expanded_shown previous
        (cond b (a ∷ filter shown (range_with_len (a + 1) n))
        (filter shown (range_with_len (a + 1) n))))
        h

    -- a shown line has its own elements
    shown-keep : (previous : Option ℕ) (a n : ℕ) → shown a ≡ true
        → shown_from previous a (suc n) ≡ before_line (gap_between filled broken) previous
        a ++ drawn a ++ shown_from (Some a) (a + 1) n
    shown-keep previous a n h =
        ap
        (λ b. expanded_shown previous
        (cond b (a ∷ filter shown (range_with_len (a + 1) n))
        (filter shown (range_with_len (a + 1) n))))
        h

    -- right after a shown line
    abbrev Next : ℕ → Type 0
    Next n =
        (c : ℕ) → shown c ≡ true → NoneFrom (c + 1 + n)
        → lines_from (Some c) (c + 1) n ≡ shown_from (Some c) (c + 1) n

    -- one line that is not shown after a shown line
    abbrev Second : ℕ → Type 0
    Second n =
        (c : ℕ) → shown c ≡ true → shown (c + 1) ≡ false → NoneFrom (c + 1 + 1 + n)
        → lines_from (Some c) (c + 1) (suc n) ≡ shown_from (Some c) (c + 1 + 1) n

    -- further on
    abbrev Far : ℕ → Type 0
    Far n =
        (c a : ℕ) → c + 3 ≤ a → (nat_lt 0 a && shown (a - 1))
        ≡ false → NoneFrom (a + n) → lines_from (Some c) a n ≡ shown_from (Some c) a n

    -- a shown line comes after one, with no line filled in between
    take-shown : (n : ℕ) → Next n → (c a : ℕ) → (a == c + 2) ≡ false
        → shown a ≡ true
        → NoneFrom (a + 1 + n) → lines_from (Some c) a (suc n) ≡ shown_from (Some c) a (suc n)
    take-shown n next c a other here none =
        lines-keep (Some c) a n true (filled-shown shown a here) here
        ∙ ap (λ rest. break_between broken c a ++ drawn a ++ rest) (next a here none)
        ∙ ap (λ first. first ++ drawn a ++ shown_from (Some a) (a + 1) n)
        (sym (gap-break c a other))
        ∙ sym (shown-keep (Some c) a n here)

    -- a shown line comes right after one
    next_step : (n : ℕ) → Next n → Second n → Next (suc n)
    next_step n next second c is none = by_test (shown (c + 1)) refl
      where
        by_test : (b : Bool) → shown (c + 1) ≡ b
            → lines_from (Some c) (c + 1) (suc n) ≡ shown_from (Some c) (c + 1) (suc n)
        by_test true here =
            let near : (c + 1 == c + 2) ≡ false = grind (arith, nat_tests) in
            take-shown n next c (c + 1) near here (λ l h. none l (omega arith))
        by_test false here =
            second c is here (λ l h. none l (omega arith))
            ∙ sym (shown-skip (Some c) (c + 1) n here)

    -- a shown line comes after one that is filled in
    second_step : (n : ℕ) → Next n → Far n → Second (suc n)
    second_step n next far c is hidden none = by_test (shown (c + 1 + 1)) refl
      where
        by_test : (b : Bool) → shown (c + 1 + 1) ≡ b
            → lines_from (Some c) (c + 1) (suc (suc n))
            ≡ shown_from (Some c) (c + 1 + 1) (suc n)
        by_test true here =
            let two : (c + 1 + 1 == c + 2) ≡ true = grind (arith, nat_tests) in
            let rest : List X = shown_from (Some (c + 1 + 1)) (c + 1 + 1 + 1) n in
            lines-keep (Some c) (c + 1) (suc n) false (filled-between shown c is here) hidden
            ∙ ap
            (λ (first : List X). first ++ filled (c + 1)
            ++ lines_from (Some (c + 1)) (c + 1 + 1) (suc n))
            (break-next c)
            ∙ ap (λ (more : List X). filled (c + 1) ++ more)
            (lines-keep (Some (c + 1)) (c + 1 + 1) n true (filled-shown shown (c + 1 + 1) here) here
            ∙ ap
            (λ (first : List X). first ++ drawn (c + 1 + 1)
            ++ lines_from (Some (c + 1 + 1)) (c + 1 + 1 + 1) n)
            (break-next (c + 1))
            ∙ ap (λ (more : List X). drawn (c + 1 + 1) ++ more)
            (next (c + 1 + 1) here (λ l h. none l (omega arith))))
            ∙ sym (shown-keep (Some c) (c + 1 + 1) n here
            ∙ ap
            (λ b. cond b (filled (c + 1)) (break_between broken c (c + 1 + 1)) ++ drawn (c + 1 + 1)
            ++ rest)
            two
            ∙ append_assoc (filled (c + 1)) (drawn (c + 1 + 1)) rest)
        by_test false here =
            lines-skip (Some c) (c + 1) (suc n) (not_filled-before shown (c + 1) hidden here)
            ∙ lines-skip (Some c) (c + 1 + 1) n
            (not_filled-after shown (c + 1 + 1) here (after-hidden shown (c + 1) hidden))
            ∙ far c (c + 1 + 1 + 1) (omega arith) (after-hidden shown (c + 1 + 1) here)
            (λ l h. none l (omega arith))
            ∙ sym (shown-skip (Some c) (c + 1 + 1) n here)

    -- a shown line comes far after one
    far_step : (n : ℕ) → Next n → Far n → Far (suc n)
    far_step n next far c a apart previous none = by_test (shown a) refl
      where
        by_test : (b : Bool) → shown a ≡ b
            → lines_from (Some c) a (suc n) ≡ shown_from (Some c) a (suc n)
        by_test true here =
            let other : (a == c + 2) ≡ false = grind (arith, nat_tests) in
            take-shown n next c a other here (λ l h. none l (omega arith))
        by_test false here =
            lines-skip (Some c) a n (not_filled-after shown a here previous)
            ∙ far c (a + 1) (omega arith) (after-hidden shown a here)
            (λ l h. none l (omega arith))
            ∙ sym (shown-skip (Some c) a n here)

    -- after a shown line, at any distance
    all_steps : (n : ℕ) → Next n × Second n × Far n
    all_steps zero = (
      λ c is none. refl,
      λ c is hidden none. lines-skip (Some c) (c + 1) 0
          (not_filled-before shown (c + 1) hidden (none (c + 1 + 1) (omega arith))),
      λ c a apart previous none. refl,
    )
    all_steps (suc n) =
        let before = all_steps n in (
          next_step n before.0 before.1,
          second_step n before.0 before.2,
          far_step n before.0 before.2,
        )

    -- before the first shown line
    from_start : (a n : ℕ) → (nat_lt 0 a && shown (a - 1)) ≡ false → NoneFrom (a + n)
        → lines_from None a n ≡ shown_from None a n
    from_start a zero previous none = refl
    from_start a (suc n) previous none =
        by_test
        (λ here. from_start (a + 1) n (after-hidden shown a here) (λ l h. none l (omega arith)))
        (shown a) refl
      where
        by_test : (shown a ≡ false → lines_from None (a + 1) n ≡ shown_from None (a + 1) n)
            → (b : Bool) → shown a ≡ b
            → lines_from None a (suc n) ≡ shown_from None a (suc n)
        by_test later true here =
            lines-keep None a n true (filled-shown shown a here) here
            ∙ ap (λ rest. drawn a ++ rest)
            ((all_steps n).0 a here (λ l h. none l (omega arith)))
            ∙ sym (shown-keep None a n here)
        by_test later false here =
            lines-skip None a n (not_filled-after shown a here previous) ∙ later here
            ∙ sym (shown-skip None a n here)

    -- the elements of the drawn lines are those of the shown lines with what is between them
    pub lines-shown : (own : ℕ → List X) → ((l : ℕ) → own l ≡ given l) → (n : ℕ)
        → NoneFrom n
        → in_sequence (λ l. l) (break_between broken) own None
        (filter (is_drawn_among shown) (range_with_len 0 n))
        ≡ in_sequence (λ l. l) (gap_between filled broken) drawn None
        (filter shown (range_with_len 0 n))
    lines-shown own are n none =
        (λ i. in_sequence (λ l. l) (break_between broken) (λ l. are l i) None
        (filter (is_drawn_among shown) (range_with_len 0 n)))
        ∙ from_start 0 n refl (λ l h. none l (omega arith))
