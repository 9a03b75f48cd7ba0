-- What `get` finds in a slice, as a view of its elements shows it.
use Rattle.std.proofs.Common.{◌≡◌, ◌<◌, ◌≤◌, ◌∙◌, ℕ, zero, suc, List, []}
use Rattle.std.proofs.Common.{◌∷◌, length, map, get_or, None, Some, ap, refl, arith}
use Rattle.std.specs.Prelude.{slice_get, slice_index}
use Rattle.std.specs.Option.{option_map}
use Rattle.std.proofs.lemmas.Option.{slice_get-map, slice_get_past, slice_get_read}

-- the element at the index
pub there : {X Y : Type 0} (view : X → Y) (xs ys : List X) (i : ℕ) (x : X) → ys ≡ xs
    → i < length ys → x ≡ get_or ys i x → slice_get (map view xs) i ≡ Some (view x)
there view xs ys i x same below is =
    slice_get-map view xs i
    ∙ ap (option_map view)
    (slice_get_read xs (length xs) i x refl (rw same at below) (rw same at is))

-- none at an index past the last
pub missing : {X Y : Type 0} (view : X → Y) (xs ys : List X) (i : ℕ) → ys ≡ xs
    → length ys ≤ i
    → slice_get (map view xs) i ≡ None
missing view xs ys i same past =
    slice_get-map view xs i ∙ ap (option_map view) (slice_get_past xs i (rw same at past))

-- a number of the element at the index
pub number_there : {X : Type 0} (view : X → ℕ) (xs : List X) (i : ℕ) (x : X) → i < length xs
    → x ≡ get_or xs i x → view x ≡ slice_index (map view xs) i
number_there view [] i x below is = absurd (omega (arith, below))
number_there view (y ∷ xs) zero x below is = ap view is
number_there view (y ∷ xs) (suc i) x below is = number_there view xs i x (omega (arith, below)) is

-- 0 at an index past the last
pub number_missing : {X : Type 0} (view : X → ℕ) (xs : List X) (i : ℕ) → length xs ≤ i
    → 0 ≡ slice_index (map view xs) i
number_missing view [] i past = refl
number_missing view (y ∷ xs) zero past = absurd (omega (arith, past))
number_missing view (y ∷ xs) (suc i) past = number_missing view xs i (omega (arith, past))
