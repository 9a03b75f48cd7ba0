-- For `style_under` and `start_style`: the style that takes precedence among those of some labels.
use Rattle.codespan_core.proofs.Std.{◌≡◌, Bool, true, false, cond, List, [], ◌∷◌}
use Rattle.codespan_core.proofs.Std.{filter, fold, Option, None, Some, refl, ◌&&◌}
use Rattle.codespan_core.proofs.Std.{if◌then◌else◌, list_any}
use Rattle.codespan_core.specs.Labels.{LabelModel, is_primary}
use Rattle.codespan_output.specs.Types.{LabelStyle, Primary, Secondary}
use Rattle.codespan_renderer.specs.Private.{prefer_primary, preferred_style}

-- the style of the first label counts if the label passes, and then those of the others
pub preferred-cons : (test : LabelModel → Bool) (found : Option LabelStyle) (x : LabelModel)
    (xs : List LabelModel)
    → preferred_style test found (x ∷ xs) ≡ preferred_style test
    (if test x then prefer_primary found x.style else found) xs
preferred-cons test found x xs = by_test (test x)
  where
    by_test : (b : Bool)
        → fold (λ best (y : LabelModel). prefer_primary best y.style) found
        (cond b (x ∷ filter test xs) (filter test xs))
        ≡ preferred_style test (if b then prefer_primary found x.style else found) xs
    by_test true = refl
    by_test false = refl

primary-cons : (test : LabelModel → Bool) (x : LabelModel) (xs : List LabelModel) (b : Bool)
    → test x ≡ b
    → preferred_style test (Some Primary) xs ≡ Some Primary
    → preferred_style test (Some Primary) (x ∷ xs) ≡ Some Primary
primary-cons test x xs true e ih = rw e ih
primary-cons test x xs false e ih = rw e ih

-- nothing takes precedence over a primary style
pub preferred-primary : (test : LabelModel → Bool) (xs : List LabelModel)
    → preferred_style test (Some Primary) xs ≡ Some Primary
preferred-primary test [] = refl
preferred-primary test (x ∷ xs) = primary-cons test x xs _ refl (preferred-primary test xs)

-- primary where one of the labels that pass is, else this style
abbrev primary_or : (LabelModel → Bool) → Option LabelStyle → List LabelModel
    → Option LabelStyle
primary_or test style xs =
    if list_any (λ x. is_primary x && test x) xs then Some Primary else style

secondary-cons : (test : LabelModel → Bool) (x : LabelModel) (xs : List LabelModel) (b : Bool)
    (s : LabelStyle)
    → test x ≡ b → x.style ≡ s
    → preferred_style test (Some Secondary) xs ≡ primary_or test (Some Secondary) xs
    → preferred_style test (Some Secondary) (x ∷ xs)
    ≡ primary_or test (Some Secondary) (x ∷ xs)
secondary-cons test x xs true Primary e q ih = rw (e, q) (preferred-primary test xs)
secondary-cons test x xs true Secondary e q ih = rw (e, q) ih
secondary-cons test x xs false Primary e q ih = rw (e, q) ih
secondary-cons test x xs false Secondary e q ih = rw (e, q) ih

preferred-secondary : (test : LabelModel → Bool) (xs : List LabelModel)
    → preferred_style test (Some Secondary) xs ≡ primary_or test (Some Secondary) xs
preferred-secondary test [] = refl
preferred-secondary test (x ∷ xs) =
    secondary-cons test x xs _ _ refl refl (preferred-secondary test xs)

-- the preferred style, by tests over all labels
abbrev pub preferred_by_tests : (LabelModel → Bool) → List LabelModel → Option LabelStyle
preferred_by_tests test xs =
    primary_or test (if list_any test xs then Some Secondary else None) xs

none-cons : (test : LabelModel → Bool) (x : LabelModel) (xs : List LabelModel) (b : Bool)
    (s : LabelStyle)
    → test x ≡ b → x.style ≡ s
    → preferred_style test None xs ≡ preferred_by_tests test xs
    → preferred_style test None (x ∷ xs) ≡ preferred_by_tests test (x ∷ xs)
none-cons test x xs true Primary e q ih = rw (e, q) (preferred-primary test xs)
none-cons test x xs true Secondary e q ih = rw (e, q) (preferred-secondary test xs)
none-cons test x xs false Primary e q ih = rw (e, q) ih
none-cons test x xs false Secondary e q ih = rw (e, q) ih

-- it is the one that is found label by label
pub preferred-none : (test : LabelModel → Bool) (xs : List LabelModel)
    → preferred_style test None xs ≡ preferred_by_tests test xs
preferred-none test [] = refl
preferred-none test (x ∷ xs) = none-cons test x xs _ _ refl refl (preferred-none test xs)
