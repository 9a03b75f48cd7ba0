-- For `unit_start`, `unit_end` and `cells_left`: their loops over characters.
use Rattle.codespan_core.proofs.Std.{◌≡◌, ℕ, ◌+◌, ◌<◌, List, [], ◌∷◌, ◌++◌, refl}
use Rattle.codespan_core.proofs.Std.{ap, sym, ◌∙◌, arith, append_assoc, inl, inr}
use Rattle.codespan_core.proofs.Std.{take, drop, chars, len_utf8, IsUtf8, encode_utf8}
use Rattle.std.proofs.lemmas.Str.{chars_past_char}
use Rattle.codespan_output.specs.FittedParts.{cells_at_most}
use Rattle.codespan_fitting.specs.Units.{end_of, start_of}
use Rattle.codespan_fitting.specs.Walks.{BeginsUnit, HaveNoCells, char_bytes, char_cells}
use Rattle.codespan_fitting.specs.Walks.{text_units}
use Rattle.codespan_fitting.proofs.LastUnits.{bytes-append}
use Rattle.codespan_fitting.proofs.UnitBounds.{IsInside, first-joined, inside-some, last-unit}
use Rattle.codespan_fitting.proofs.UnitBounds.{unit-bounds}

-- ---- back

-- after `before` these characters have some without cells
pub record IsBeforeJoined (tab : ℕ) (cs before : List ℕ) : Type 0 where
  pub joined : List ℕ
  pub split : cs ≡ before ++ joined
  pub joins : HaveNoCells tab joined

pub before-more : (tab c : ℕ) (cs before next : List ℕ) → IsBeforeJoined tab cs before
    → before ≡ next ++ c ∷ [] → cells_at_most tab c ≡ 0 → IsBeforeJoined tab cs next
before-more tab c cs before next h e none = record {
  joined = c ∷ h.joined;
  split =
      h.split ∙ ap (λ xs. xs ++ h.joined) e ∙ append_assoc next (c ∷ []) h.joined;
  joins = (none, h.joins);
}

-- a character with cells begins the unit
pub start-found : (tab byte at c : ℕ) (text before next : List ℕ) → IsInside text byte at
    → IsBeforeJoined tab (chars (take at text)) before → before ≡ next ++ c ∷ []
    → 0 < cells_at_most tab c
    → char_bytes next ≡ start_of 0 byte (text_units tab text)
start-found tab byte at c text before next inside h e some =
    let after = first-joined tab (chars (drop at text)) in
    (unit-bounds tab byte at text next c h.joined after.joined after.rest inside
    (h.split ∙ ap (λ xs. xs ++ h.joined) e ∙ append_assoc next (c ∷ []) h.joined)
    h.joins (inr some) after.split after.joins after.begins).0

-- without one it is the first
pub start-first : (tab byte at : ℕ) (text : List ℕ) → IsInside text byte at
    → IsBeforeJoined tab (chars (take at text)) []
    → 0 ≡ start_of 0 byte (text_units tab text)
start-first tab byte at text inside h = by_joined h.joined h.split h.joins
  where
    by_joined : (joined : List ℕ) → chars (take at text) ≡ joined → HaveNoCells tab joined
        → 0 ≡ start_of 0 byte (text_units tab text)
    by_joined [] split joins = absurd (inside-some text byte at inside split)
    by_joined (c ∷ cs) split joins =
        let after = first-joined tab (chars (drop at text)) in
        (unit-bounds tab byte at text [] c cs after.joined after.rest inside split
        joins.1 (inl refl) after.split after.joins after.begins).0

-- ---- forth

-- these characters, the first at byte `start`, have some without cells before `rest`, which is at
-- byte `at`
pub record IsAfterJoined (tab : ℕ) (cs : List ℕ) (start at : ℕ) (rest : List ℕ) : Type 0 where
  pub joined : List ℕ
  pub split : cs ≡ joined ++ rest
  pub joins : HaveNoCells tab joined
  pub at_is : start + char_bytes joined ≡ at

no-cells-push : (tab c : ℕ) (xs : List ℕ) → HaveNoCells tab xs → cells_at_most tab c ≡ 0
    → HaveNoCells tab (xs ++ c ∷ [])
no-cells-push tab c [] h none = (none, tt)
no-cells-push tab c (x ∷ xs) h none = (h.0, no-cells-push tab c xs h.1 none)

pub after-more : (tab start at c : ℕ) (cs rest next : List ℕ)
    → IsAfterJoined tab cs start at rest
    → rest ≡ c ∷ next → cells_at_most tab c ≡ 0
    → IsAfterJoined tab cs start (at + len_utf8 c) next
after-more tab start at c cs rest next h e none = record {
  joined = h.joined ++ c ∷ [];
  split =
      h.split ∙ ap (λ xs. h.joined ++ xs) e ∙ sym (append_assoc h.joined (c ∷ []) next);
  joins = no-cells-push tab c h.joined h.joins none;
  at_is = omega (arith, bytes-append h.joined (c ∷ []), h.at_is);
}

-- a unit begins there, or the text ends
pub end-found : (tab byte at end : ℕ) (text rest : List ℕ) → IsInside text byte at
    → IsAfterJoined tab (chars (drop at text)) at end rest → BeginsUnit tab rest
    → end ≡ end_of 0 byte (text_units tab text)
end-found tab byte at end text rest inside h begins =
    by_front (chars (take at text)) refl
  where
    by_front : (cs : List ℕ) → chars (take at text) ≡ cs
        → end ≡ end_of 0 byte (text_units tab text)
    by_front [] e = absurd (inside-some text byte at inside e)
    by_front (c ∷ cs) e =
        let last = last-unit tab c cs in
        sym h.at_is
        ∙ (unit-bounds tab byte at text last.front last.first last.rest h.joined rest inside
        (e ∙ last.split) last.joins last.begins h.split h.joins begins).1

-- ---- cells

-- one character more
pub cells-past : (tab cells c : ℕ) (rest next : List ℕ) → IsUtf8 rest
    → rest ≡ encode_utf8 c ++ next → cells ≡ cells_at_most tab c
    → char_cells tab (chars rest) ≡ cells + char_cells tab (chars next)
cells-past tab cells c rest next u e is =
    omega (arith, is, ap (char_cells tab) (chars_past_char rest next c u e))
