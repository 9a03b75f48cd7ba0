-- The range of a label is ordered: for the clause of `laws::label_ranges_are_ordered`.
use Rattle.std.proofs.Common.{◌≡◌, ℕ, ◌≤◌, min, max, Bool, true, false, cond}
use Rattle.std.proofs.Common.{List, Option, Some, None, refl, ap, arith, inl, inr}
use Rattle.std.proofs.lemmas.Bool.{cases_order}
use Rattle.std.proofs.lemmas.Bool.Decides.{nat_tests}
use Rattle.std.specs.Str.{IsCharBoundary}
use Rattle.codespan_base.specs.FileModel.{FileModel, Lookup, or_failure}
use Rattle.codespan_base.specs.LawfulFiles.{IsLawful}
use Rattle.codespan_base.specs.declared.files.Error.{Error}
use Rattle.codespan_lsp.specs.Positions.{byte_column_failure, position_of, position_failure}
use Rattle.codespan_lsp.specs.PositionLaws.{IsOnLine, IsOrderedRange, LabelRangesAreOrdered}
use Rattle.codespan_lsp.specs.Ranges.{range_of}
use Rattle.codespan_lsp.specs.declared.encoding.PositionEncoding.{PositionEncoding}
use Rattle.codespan_lsp.proofs.LawLemmas.{positions-ascend}
use Rattle.std.proofs.lemmas.Grind.{common_steps}

-- neither of two errors
pub neither : (o p : Option Error) → or_failure o p ≡ None → (o ≡ None) × (p ≡ None)
neither None p h = (refl, h)
neither (Some e) p h = cc

-- two tests of which each could be an error
tests-pass : (past boundary : Bool) (e e' : Error)
    → cond past (Some e) (cond boundary None (Some e')) ≡ None
    → (past ≡ false) × (boundary ≡ true)
tests-pass true boundary e e' h = cc
tests-pass false true e e' h = (refl, refl)
tests-pass false false e e' h = cc

-- a byte without an error is a boundary that is not past the end
column-passes : (text : List ℕ) (start end byte : ℕ)
    → byte_column_failure text start end byte ≡ None
    → (byte ≤ end) × IsCharBoundary text byte
column-passes text start end byte h = grind (arith, common_steps, tests-pass, nat_tests)

module _ (encoding : PositionEncoding) (f : FileModel) where
  -- so a byte whose position is found is on its line
  pub found-on-line : (failure : Lookup → Option Error) (byte : ℕ)
      → position_failure encoding f failure byte ≡ None → IsOnLine f byte
  found-on-line failure byte h = grind (arith, common_steps, neither, column-passes)

  -- the range from a byte to the same one or to a later one
  range-ordered : IsLawful f → (a b : ℕ) → IsOnLine f a → IsOnLine f b → a ≤ b
      → IsOrderedRange (range_of encoding f (record { start = a; end = b }))
  range-ordered law a b on_a on_b up =
      elim (cases_order a b) [
        | inl same ↦ inl (ap (position_of encoding f) same)
        | inr apart ↦ elim apart [
          | inl less ↦ inr (positions-ascend encoding f a b law on_a on_b less)
          | inr more ↦ absurd (omega arith)
        ]
      ]

pub label-ranges-are-ordered : LabelRangesAreOrdered
label-ranges-are-ordered encoding f failure span law none =
    let low = min span.start span.end in
    let high = max span.start span.end in
    let up : low ≤ high = omega arith in
    let ends = neither (position_failure encoding f failure low) _ none in
    range-ordered encoding f law low high (found-on-line encoding f failure low ends.0)
    (found-on-line encoding f failure high ends.1) up
