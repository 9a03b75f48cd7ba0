-- For `stated_loci_are_loci`: lists of loci, and those with the names that files state.
use Rattle.codespan_core.proofs.Std.{◌≡◌, ℕ, suc, Bool, List, [], ◌∷◌, ◌++◌}
use Rattle.codespan_core.proofs.Std.{Option, Some, None, length, map, not, refl, sym, ap}
use Rattle.codespan_core.proofs.Std.{true≢false, Contains, IfSome, unwrap_or, AllByRecursion}
use Rattle.codespan_core.proofs.Std.{AllZip, IsUtf8, recursion_from_All, IsUtf8-nil}
use Rattle.std.specs.Prelude.{IsSome}
use Rattle.std.proofs.lemmas.List.Elements.{All-contains_itself, All-weaker}
use Rattle.codespan_core.specs.FileModel.{FileDatabase, FileModel}
use Rattle.codespan_core.specs.Labels.{first_seen, is_primary}
use Rattle.codespan_output.specs.Types.{DisplayStyle, Rich, Medium, Short, Diagnostic}
use Rattle.codespan_output.specs.{AreLoci, IsLocus, NamesAreUtf8, labels_of, locus_bytes}
use Rattle.codespan_output.specs.{stated_loci, stated_locus, Locus, LabelInFile, LabeledFileModel}
use Rattle.codespan_output.specs.{file_ids, labeled_file_model, labeled_file_models, primary_of}
use Rattle.codespan_output.proofs.Lanes.LineLemmas.{each_map}
use Rattle.codespan_output.proofs.Utf8.ListElements.{all-filter}
use Rattle.codespan_output.specs.Private.{snippet_locus_byte, label_locus_byte}

-- ---- one locus

-- a stated name is the one that is shown
shown_is_stated : (o : Option (List ℕ)) → IfSome o (λ stated. unwrap_or o [] ≡ stated)
shown_is_stated None = tt
shown_is_stated (Some stated) = refl

-- the name that is shown is a text where a stated one is
shown_is_text : (o : Option (List ℕ)) → IfSome o IsUtf8 → IsUtf8 (unwrap_or o [])
shown_is_text None h = IsUtf8-nil
shown_is_text (Some stated) h = h

-- a name that is stated
stated_name : (o : Option (List ℕ)) (name : List ℕ) → IfSome o (λ stated. name ≡ stated)
    → IsSome o
    → name ≡ unwrap_or o []
stated_name None name is some = absurd (true≢false (sym some))
stated_name (Some stated) name is some = is

-- the locus with the name that a file states is a locus of the file
pub locus_there : (at : FileModel × ℕ) → IsLocus at (stated_locus at)
locus_there at = record { location = refl; name = shown_is_stated at.0.name }

-- ---- lists of them

module _ {X : Type 0} where
  -- what follows from a relation of each two
  pub zip_weaker : (R S : X → Locus → Type 0) → ((x : X) (p : Locus) → R x p → S x p)
      → (xs : List X) (ps : List Locus) → AllZip R xs ps → AllZip S xs ps
  zip_weaker R S by [] [] h = tt
  zip_weaker R S by [] (p ∷ ps) h = absurd h
  zip_weaker R S by (x ∷ xs) [] h = absurd h
  zip_weaker R S by (x ∷ xs) (p ∷ ps) h = (by x p h.0, zip_weaker R S by xs ps h.1)

  -- the locus that a function has for each element
  pub zip_each : (R : X → Locus → Type 0) (to_locus : X → Locus)
      → ((x : X) → R x (to_locus x))
      → (xs : List X) → AllZip R xs (map to_locus xs)
  zip_each R to_locus by [] = tt
  zip_each R to_locus by (x ∷ xs) = (by x, zip_each R to_locus by xs)

  -- there are as many loci as elements
  pub zip_length : (R : X → Locus → Type 0) (xs : List X) (ps : List Locus) → AllZip R xs ps
      → length xs ≡ length ps
  zip_length R [] [] h = refl
  zip_length R [] (p ∷ ps) h = absurd h
  zip_length R (x ∷ xs) [] h = absurd h
  zip_length R (x ∷ xs) (p ∷ ps) h = ap (λ n. suc n) (zip_length R xs ps h.1)

  -- one list of them after another
  pub zip_append : (R : X → Locus → Type 0) (xs ys : List X) (ps qs : List Locus)
      → AllZip R xs ps
      → AllZip R ys qs → AllZip R (xs ++ ys) (ps ++ qs)
  zip_append R [] ys [] qs h k = k
  zip_append R [] ys (p ∷ ps) qs h k = absurd h
  zip_append R (x ∷ xs) ys [] qs h k = absurd h
  zip_append R (x ∷ xs) ys (p ∷ ps) qs h k = (h.0, zip_append R xs ys ps qs h.1 k)

  -- loci of the images of a list
  pub zip_map : {Y : Type 0} (R : Y → Locus → Type 0) (f : X → Y) (xs : List X)
      (ps : List Locus)
      → AllZip (λ x p. R (f x) p) xs ps → AllZip R (map f xs) ps
  zip_map R f [] [] h = tt
  zip_map R f [] (p ∷ ps) h = absurd h
  zip_map R f (x ∷ xs) [] h = absurd h
  zip_map R f (x ∷ xs) (p ∷ ps) h = (h.0, zip_map R f xs ps h.1)

  -- the names of the loci are texts
  pub zip_texts : (R : X → Locus → Type 0) → ((x : X) (p : Locus) → R x p → IsUtf8 p.name)
      → (xs : List X) (ps : List Locus) → AllZip R xs ps → NamesAreUtf8 ps
  zip_texts R text [] [] h = tt
  zip_texts R text [] (p ∷ ps) h = absurd h
  zip_texts R text (x ∷ xs) [] h = absurd h
  zip_texts R text (x ∷ xs) (p ∷ ps) h = (text x p h.0, zip_texts R text xs ps h.1)

-- the loci of files that state their names are those with these names
pub zip_stated : (ats : List (FileModel × ℕ)) (ps : List Locus) → AllZip IsLocus ats ps
    → AllByRecursion (λ (at : FileModel × ℕ). IsSome at.0.name) ats
    → ps ≡ map stated_locus ats
zip_stated [] [] h k = refl
zip_stated [] (p ∷ ps) h k = absurd h
zip_stated (at ∷ ats) [] h k = absurd h
zip_stated (at ∷ ats) (p ∷ ps) h k =
    let name = stated_name at.0.name p.name h.0.name k.0 in
    let location = h.0.location in
    let rest = zip_stated ats ps h.1 k.1 in
    λ i. record { name = name i; location = location i } ∷ rest i

-- the names of these are texts where the stated names are
pub stated_texts : (ats : List (FileModel × ℕ))
    → AllByRecursion (λ (at : FileModel × ℕ). IfSome at.0.name IsUtf8) ats
    → NamesAreUtf8 (map stated_locus ats)
stated_texts [] h = tt
stated_texts (at ∷ ats) h = (shown_is_text at.0.name h.0, stated_texts ats h.1)

-- ---- what holds of the files of some labels holds where these loci are

-- what holds of each element that a list has holds of all
pub each_of : {X : Type 0} (P : X → Type 0) (xs : List X) → ((x : X) → Contains xs x → P x)
    → AllByRecursion P xs
each_of P xs h = recursion_from_All P xs (All-weaker (Contains xs) P h xs (All-contains_itself xs))

-- what holds of each of some ids holds of those that are seen first
seen-each : {Id : Type 0} (P : Id → Type 0) (same : Id → Id → Bool) (js : List Id)
    → AllByRecursion P js → AllByRecursion P (first_seen same js)
seen-each P same [] h = tt
seen-each P same (j ∷ js) h = (
  h.0,
  all-filter P (λ other. not (same j other)) (first_seen same js)
      (seen-each P same js h.1),
)

module _ {Id : Type 0} (same : Id → Id → Bool) (file : Id → FileModel)
    (xs : List (LabelInFile Id))
    (P : FileModel → Type 0)
    (each : AllByRecursion (λ (x : LabelInFile Id). P (file x.file_id)) xs) where
  each_primary : AllByRecursion (λ (x : LabelInFile Id). P (file x.file_id)) (primary_of xs)
  each_primary =
      all-filter (λ (x : LabelInFile Id). P (file x.file_id))
      (λ (x : LabelInFile Id). is_primary x.label) xs
      each

  each_file : AllByRecursion (λ (s : LabeledFileModel). P s.file)
      (labeled_file_models same file xs)
  each_file =
      each_map (λ (s : LabeledFileModel). P s.file) (labeled_file_model same file xs)
      (file_ids same xs)
      (seen-each (λ id. P (file id)) same (map (λ (x : LabelInFile Id). x.file_id) xs)
      (each_map (λ id. P (file id)) (λ (x : LabelInFile Id). x.file_id) xs each))

  pub each_start : (style : DisplayStyle)
      → AllByRecursion (λ (at : FileModel × ℕ). P at.0) (locus_bytes same file xs style)
  each_start Rich =
      each_map (λ (at : FileModel × ℕ). P at.0) snippet_locus_byte
      (labeled_file_models same file xs) each_file
  each_start Medium =
      each_map (λ (at : FileModel × ℕ). P at.0) (label_locus_byte file) (primary_of xs)
      each_primary
  each_start Short =
      each_map (λ (at : FileModel × ℕ). P at.0) (label_locus_byte file) (primary_of xs)
      each_primary

-- ---- the loci of an output

-- those with the names that the files state are loci of the output
pub stated_are_loci : {Id : Type 0} (files : FileDatabase Id) (d : Diagnostic Id)
    (style : DisplayStyle)
    → AreLoci files d style (stated_loci files d style)
stated_are_loci files d style =
    zip_each IsLocus stated_locus locus_there
    (locus_bytes files.same files.file (labels_of d) style)
