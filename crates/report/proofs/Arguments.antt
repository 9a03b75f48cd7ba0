-- For the clauses of `LabelRequest::from_arguments`, `Request::from_arguments` and
-- `is_version_requested`: what the arguments request, one by one.
use Rattle.codespan_core.proofs.Std.{◌≡◌, ℕ, ◌<◌, ◌≤◌, ◌⊎◌, inl, inr, List}
use Rattle.codespan_core.proofs.Std.{[], ◌∷◌, length, get_or, map, Option, None, refl, ap}
use Rattle.codespan_core.proofs.Std.{sym, ◌∙◌, arith, option_map, bytes_eq, codes, false}
use Rattle.codespan_output.specs.Types.{DisplayStyle}
use Rattle.program_io.specs.Names.{display_style_named}
use Rattle.report.specs.declared.request.ScriptOutput.{ScriptOutput}
use Rattle.report.specs.Requests.{request_of, number_of, label_request_of, label_request_with}
use Rattle.report.specs.Requests.{requests_version, script_output_named}
use Rattle.report.specs.Requests.RequestView.{OneLabel, OfScript}

-- five elements by their indices
five_elements : {A : Type 0} (xs : List A) (a b c d e : A) → 5 ≤ length xs → length xs < 6
    → a ≡ get_or xs 0 a → b ≡ get_or xs 1 b → c ≡ get_or xs 2 c → d ≡ get_or xs 3 d
    → e ≡ get_or xs 4 e
    → xs ≡ a ∷ b ∷ c ∷ d ∷ e ∷ []
five_elements [] a b c d e least most p q r s t = absurd (omega arith)
five_elements (v ∷ []) a b c d e least most p q r s t = absurd (omega arith)
five_elements (v ∷ w ∷ []) a b c d e least most p q r s t = absurd (omega arith)
five_elements (v ∷ w ∷ x ∷ []) a b c d e least most p q r s t = absurd (omega arith)
five_elements (v ∷ w ∷ x ∷ y ∷ []) a b c d e least most p q r s t = absurd (omega arith)
five_elements (v ∷ w ∷ x ∷ y ∷ z ∷ []) a b c d e least most p q r s t = cc
five_elements (v ∷ w ∷ x ∷ y ∷ z ∷ u ∷ more) a b c d e least most p q r s t = absurd
    (omega arith)

-- any other number of arguments is no label request
pub not_five_arguments : {A : Type 0} (text : A → List ℕ) (xs : List A)
    → (length xs < 5) ⊎ (6 ≤ length xs)
    → None ≡ label_request_of (map text xs)
unfolding label_request_of
not_five_arguments text [] others = refl
not_five_arguments text (v ∷ []) others = refl
not_five_arguments text (v ∷ w ∷ []) others = refl
not_five_arguments text (v ∷ w ∷ x ∷ []) others = refl
not_five_arguments text (v ∷ w ∷ x ∷ y ∷ []) others = refl
not_five_arguments text (v ∷ w ∷ x ∷ y ∷ z ∷ []) others =
    absurd (elim others [ inl few ↦ omega arith | inr many ↦ omega arith ])
not_five_arguments text (v ∷ w ∷ x ∷ y ∷ z ∷ u ∷ more) others = refl

-- the label request of five arguments, from what each of them says
pub five_arguments : {A : Type 0} (text : A → List ℕ) (xs : List A)
    (style name start end message : A)
    → 5 ≤ length xs → length xs < 6
    → style ≡ get_or xs 0 style → name ≡ get_or xs 1 name → start ≡ get_or xs 2 start
    → end ≡ get_or xs 3 end → message ≡ get_or xs 4 message
    → (named : Option DisplayStyle) (first last : Option ℕ)
    → named ≡ display_style_named (text style) → first ≡ number_of (text start)
    → last ≡ number_of (text end)
    → label_request_with (text name) (text message) named first last
    ≡ label_request_of (map text xs)
unfolding label_request_of
five_arguments text xs style name start end message least most p q r s t named first last x y z =
    let five = five_elements xs style name start end message least most p q r s t in
    let request : label_request_with (text name) (text message) named first last
    ≡ label_request_of
    (text style ∷ text name ∷ text start ∷ text end ∷ text message ∷ []) =
    rw (x, y, z) refl in
    request ∙ ap (λ l. label_request_of (map text l)) (sym five)

-- two elements by their indices
two_elements : {A : Type 0} (xs : List A) (a b : A) → 2 ≤ length xs → length xs < 3
    → a ≡ get_or xs 0 a → b ≡ get_or xs 1 b → xs ≡ a ∷ b ∷ []
two_elements [] a b least most p q = absurd (omega arith)
two_elements (v ∷ []) a b least most p q = absurd (omega arith)
two_elements (v ∷ w ∷ []) a b least most p q = cc
two_elements (v ∷ w ∷ x ∷ more) a b least most p q = absurd (omega arith)

-- the request of two arguments
pub two_arguments : {A : Type 0} (text : A → List ℕ) (xs : List A) (output name : A)
    → 2 ≤ length xs
    → length xs < 3
    → output ≡ get_or xs 0 output → name ≡ get_or xs 1 name
    → (named : Option ScriptOutput)
    → named ≡ script_output_named (text output)
    → option_map (λ o. OfScript o (text name)) named ≡ request_of (map text xs)
unfolding request_of
two_arguments text xs output name least most p q named x =
    ap (option_map (λ o. OfScript o (text name))) x
    ∙ ap (λ l. request_of (map text l)) (sym (two_elements xs output name least most p q))

-- what another number of arguments requests
pub other_arguments : {A : Type 0} (text : A → List ℕ) (xs : List A)
    → (length xs < 2) ⊎ (3 ≤ length xs)
    → request_of (map text xs) ≡ option_map OneLabel (label_request_of (map text xs))
unfolding request_of
other_arguments text [] others = refl
other_arguments text (v ∷ []) others = refl
other_arguments text (v ∷ w ∷ []) others =
    absurd (elim others [ inl few ↦ omega arith | inr many ↦ omega arith ])
other_arguments text (v ∷ w ∷ x ∷ more) others = refl

-- whether one argument requests the version
pub one_argument : {A : Type 0} (text : A → List ℕ) (xs : List A) (word : A)
    → 1 ≤ length xs → length xs < 2 → word ≡ get_or xs 0 word
    → bytes_eq (text word) (codes "--version") ≡ requests_version (map text xs)
unfolding requests_version
one_argument text [] word least most p = absurd (omega arith)
one_argument text (v ∷ []) word least most p =
    ap (λ it. bytes_eq (text it) (codes "--version")) p
one_argument text (v ∷ w ∷ more) word least most p = absurd (omega arith)

-- any other number of arguments does not
pub not_one_argument : {A : Type 0} (text : A → List ℕ) (xs : List A)
    → (length xs < 1) ⊎ (2 ≤ length xs)
    → false ≡ requests_version (map text xs)
unfolding requests_version
not_one_argument text [] others = refl
not_one_argument text (v ∷ []) others =
    absurd (elim others [ inl few ↦ omega arith | inr many ↦ omega arith ])
not_one_argument text (v ∷ w ∷ more) others = refl
