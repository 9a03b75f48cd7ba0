-- For the members `lawful`, `same_file` and `past_last_line` of `SimpleFiles` of `codespan_base`:
-- the law of a file database some of whose ids name no file.
use Rattle.std.proofs.Common.{◌≡◌, ℕ, zero, suc, ◌<◌, true, Option, Some, None, refl}
use Rattle.std.proofs.Common.{ap, arith, eqb}
use Rattle.std.proofs.lemmas.Bool.{eqb-true}
use Rattle.std.specs.Option.{option_map_or}
use Rattle.std.specs.Prelude.{List, [], ◌∷◌, map, slice_get}
use Rattle.std.proofs.Common.{get_or}
use Rattle.std.specs.Str.{IsCharBoundary}
use Rattle.std.proofs.lemmas.Str.{IsUtf8-nil}
use Rattle.codespan_core.specs.declared.files.error.Error.{Error}
use Rattle.codespan_core.specs.FileModel.{FileModel, Lookup}
use Rattle.codespan_core.specs.LawfulFiles.{IsLawful, FailsPastLastLine}
use Rattle.codespan_core.specs.FileModel.Lookup.{LineRange}
use Rattle.codespan_core.specs.SimpleModel.{missing_file, missing_failure}

-- the one start and the one end of an empty text are boundaries
cut_at_zero : (i : ℕ) → i < 1 → IsCharBoundary [] (get_or (0 ∷ []) i 0)
cut_at_zero zero h = (omega arith, λ k. absurd (omega arith))
cut_at_zero (suc i) h = absurd (omega arith)

-- the file of an id that names none is lawful
missing_lawful : IsLawful missing_file
missing_lawful = record {
  is_utf8 = IsUtf8-nil;
  fits = omega arith;
  has_line = omega arith;
  first = refl;
  ascending = λ i h. absurd (omega arith);
  starts_on_boundaries = cut_at_zero;
  ends_on_boundaries = cut_at_zero;
  ends_after_start = λ i h. omega arith;
  ends_before_next = λ i h. absurd (omega arith);
  same_length = refl;
  missing_name = λ _. refl;
  missing_text = λ _. refl;
}

-- where the file of each item of a list is lawful, by a view of the item, so is the file of each
-- id, also of one that names none
pub database_lawful : {X Y : Type 0} (view : X → Y) (file : Y → FileModel) (xs : List X)
    (id : ℕ)
    → ((x : X) → IsLawful (file (view x)))
    → IsLawful (option_map_or file (slice_get (map view xs) id) missing_file)
database_lawful view file [] id h = missing_lawful
database_lawful view file (x ∷ xs) zero h = h x
database_lawful view file (x ∷ xs) (suc id) h = database_lawful view file xs id h

-- and where the file of each item fails past its last line as the law says, so does that of each id
pub past_last_line_or : {X : Type 0} (file : X → FileModel)
    (failure : X → Lookup → Option Error)
    (i : ℕ) (o : Option X)
    → ((x : X) → FailsPastLastLine (file x) i (failure x (LineRange i)))
    → FailsPastLastLine (option_map_or file o missing_file) i
    (option_map_or (λ x. failure x (LineRange i)) o (missing_failure (LineRange i)))
past_last_line_or file failure i None h = λ there. absurd (cc)
past_last_line_or file failure i (Some x) h = h x

-- two functions have the same values at two numbers that are equal by the test
pub same_at : {A B : Type 0} (f : ℕ → A) (g : ℕ → B) (i j : ℕ) → eqb i j ≡ true
    → (f i ≡ f j) × (g i ≡ g j)
same_at f g i j e = (ap f (eqb-true i j e), ap g (eqb-true i j e))
