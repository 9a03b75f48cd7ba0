-- For the clause of `gallery::render_cases`: outputs that are appended one by one.
use Rattle.std.proofs.Common.{◌≡◌, ◌+◌, ◌<◌, ℕ, List, [], ◌∷◌, ◌++◌}
use Rattle.std.proofs.Common.{length, take, get_or, refl, sym, ◌∙◌, ap, subst, append_assoc}
use Rattle.std.proofs.lemmas.List.{append-nil, take_more}
use Rattle.gallery_cases.specs.declared.case.Case.{Case}
use Rattle.gallery_cases.specs.Galleries.{heading, IsSection, IsGallery}

-- what is appended at the end is appended to what is left after a part
regrouped : (named first left next section : List ℕ)
    → (((named ++ first) ++ left) ++ next) ++ section ≡ (named ++ first)
    ++ ((left ++ next) ++ section)
regrouped named first left next section = simp append_assoc

-- the gallery with one more output
pub IsGallery-more : (cases : List Case) (case : Case) (text section new : List ℕ)
    → IsGallery cases text → IsSection case section
    → new ≡ (text ++ heading case.name.now) ++ section → IsGallery (cases ++ case ∷ []) new
IsGallery-more [] case text section new none output is = (
  section,
  [],
  is ∙ ap (λ front. (front ++ heading case.name.now) ++ section) none
      ∙ sym (append-nil _),
  output,
  refl,
)
IsGallery-more (first ∷ cases) case text section new rendered output is =
    let t = heading case.name.now in
    let more : new ≡ (heading first.name.now ++ rendered.0) ++ ((rendered.1 ++ t) ++ section) =
    is ∙ ap (λ front. (front ++ t) ++ section) rendered.2
    ∙ regrouped (heading first.name.now) rendered.0 rendered.1 t section in (
      rendered.0,
      (rendered.1 ++ t)
          ++ section,
      more,
      rendered.3,
      IsGallery-more cases case rendered.1 section
          ((rendered.1 ++ t) ++ section) rendered.4 output refl,
    )

-- the gallery with the output of the case at an index
pub next_case : (cases : List Case) (i : ℕ) (case : Case) (text section new : List ℕ)
    → i < length cases → case ≡ get_or cases i case
    → IsGallery (take i cases) text → IsSection case section
    → new ≡ (text ++ heading case.name.now) ++ section → IsGallery (take (i + 1) cases) new
next_case cases i case text section new inside at rendered output is =
    let longer : take (i + 1) cases ≡ take i cases ++ case ∷ [] =
    take_more cases i case inside ∙ ap (λ (c : Case). take i cases ++ c ∷ []) (sym at) in
    subst (λ cs. IsGallery cs new) (sym longer)
    (IsGallery-more (take i cases) case text section new rendered output is)
