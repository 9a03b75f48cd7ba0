-- The cuts of a text: what is left out of it, and where the dots are that stand for it.
use Rattle.std.specs.Prelude.{◌≡◌, ℕ, ◌+◌, ◌-◌, nat_lt, if◌then◌else◌, List, [], ◌∷◌}
use Rattle.std.specs.Prelude.{◌≤◌, length, map, ⊤}
use Rattle.std.specs.Str.{IsCharBoundary}
use Rattle.codespan_output.specs.FittedLines.{dots}
use Rattle.codespan_output.specs.FittedParts.{Piece, Kept, Dots, unit_bytes}
use Rattle.codespan_fitting.specs.declared.cut.Cut.{Cut}

-- a cut: the bytes of a text from `start` to before `end` are left out, and the dots for them begin
-- at byte `dots` of the text that is shown
pub record CutModel : Type 0 where
  pub start : ℕ
  pub end : ℕ
  pub dots : ℕ

-- a cut, from the code's own
abbrev pub cut_view : Cut → CutModel
cut_view c = record { start = c.start; end = c.end; dots = c.dots }

-- the cuts of pieces, the first of which starts at byte `at` of the text, and at byte `shown` of
-- the text that is shown
abbrev pub cuts_from : ℕ → ℕ → List Piece → List CutModel
cuts_from at shown [] = []
cuts_from at shown (Kept u ∷ ps) = cuts_from (at + u.bytes) (shown + u.bytes) ps
cuts_from at shown (Dots us ∷ ps) =
    record { start = at; end = at + unit_bytes us; dots = shown }
    ∷ cuts_from (at + unit_bytes us) (shown + length dots) ps

-- the cuts are those of these pieces of a text
abbrev pub AreCutsOf : List Piece → List Cut → Type 0
AreCutsOf pieces cuts = map cut_view cuts ≡ cuts_from 0 0 pieces

-- from byte `at` on the cuts come one after another, and are between whole characters of the text
abbrev pub AreBetweenChars : List ℕ → ℕ → List CutModel → Type 0
AreBetweenChars text at [] = ⊤
AreBetweenChars text at (c ∷ cs) =
    (at ≤ c.start) × IsCharBoundary text c.start × IsCharBoundary text c.end
    × AreBetweenChars text c.end cs

-- where a byte index of the text is in the text that is shown, if the cut is the last one that
-- starts there or before: in the cut where its dots begin, and after it as far from their end
abbrev pub moved_after : CutModel → ℕ → ℕ
moved_after c x = if nat_lt x c.end then c.dots else c.dots + length dots + (x - c.end)
