-- The edits that an error names, for the clause of `errors_name_edits`, and for what `by_indices`
-- requires.
use Rattle.codespan_core.proofs.Std.{◌≡◌, ℕ, ◌+◌, ◌<◌, ◌≤◌, Bool, true, false}
use Rattle.codespan_core.proofs.Std.{not, nat_lt, if◌then◌else◌, List, [], ◌∷◌, length}
use Rattle.codespan_core.proofs.Std.{map, Option, Some, None, option_map, refl, subst, arith}
use Rattle.codespan_core.proofs.Std.{AllByRecursion, All-from_recursion, enumerate_from, length-map}
use Rattle.std.specs.Prelude.{slice_index}
use Rattle.std.specs.Option.{option_or}
use Rattle.codespan_core.specs.FileModel.{FileDatabase}
use Rattle.codespan_core.specs.FileModel.Lookup.{Source}
use Rattle.codespan_core.specs.Lines.{is_char_boundary}
use Rattle.codespan_edits.specs.Edits.{TextEdit, ListedEdit, listed, listed_from, in_order}
use Rattle.codespan_edits.specs.Faults.{own_fault, first_own_fault, neighbor_fault, fault}
use Rattle.codespan_edits.specs.declared.edit.Edit as edit
use Rattle.codespan_edits.specs.declared.error.EditError.{EditError}
use Rattle.codespan_edits.specs.declared.error.EditError.TheVariants.{Reversed, PastEnd}
use Rattle.codespan_edits.specs.declared.error.EditError.TheVariants.{NotCharBoundary, Overlap}
use Rattle.codespan_edits.specs.declared.error.EditError.TheVariants.{OutOfMemory}
use Rattle.codespan_edits.proofs.OrderLemmas.{all-in_order}
use Rattle.codespan_suggestions.specs.EditedFiles.{edited_files, indexed_edits, edits_of_file}
use Rattle.codespan_suggestions.specs.EditedFiles.{indices_of_file}
use Rattle.codespan_suggestions.specs.Faults.{NamesEdits, by_indices, edits_fault, file_fault}
use Rattle.codespan_suggestions.specs.Faults.{first_fault}
use Rattle.codespan_suggestions.specs.SuggestionLaws.{ErrorsNameEdits}
use Rattle.codespan_suggestions.specs.declared.error.SuggestionError.TheVariants.{Edit, Files}
use Rattle.codespan_suggestions.proofs.FilesOnce.{all-filter}

-- the first of two choices is the first one or the second one
either : {X : Type 0} (P : Type 0) (o p : Option X) (x : X) → (o ≡ Some x → P)
    → (p ≡ Some x → P) → option_or o p ≡ Some x → P
either P None p x first second h = second h
either P (Some y) p x first second h = first h

-- what is made of a choice is made of what is chosen
unmapped : {X Y : Type 0} (f : X → Y) (o : Option X) (y : Y) → option_map f o ≡ Some y
    → (x : X) × (o ≡ Some x) × (f x ≡ y)
unmapped f None y h = absurd (cc)
unmapped f (Some x) y h = (x, refl, cc)

module _ (text : List ℕ) (n : ℕ) where
  -- an edit's own fault names it
  own-names : (x : ListedEdit) (e : EditError) → x.index < n → own_fault text x ≡ Some e
      → NamesEdits n e
  own-names x e h is =
      by (nat_lt x.edit.end x.edit.start) (nat_lt (length text) x.edit.end)
      (not (is_char_boundary text x.edit.start)) (not (is_char_boundary text x.edit.end)) is
    where
      by : (a b c d : Bool)
          → (if a then Some (Reversed x.index) else if b then Some (PastEnd x.index (length text))
          else if c then Some (NotCharBoundary x.index x.edit.start)
          else if d then Some (NotCharBoundary x.index x.edit.end) else None) ≡ Some e
          → NamesEdits n e
      by true b c d k =
          let it : Reversed x.index ≡ e = cc in
          subst (NamesEdits n) it h
      by false true c d k =
          let it : PastEnd x.index (length text) ≡ e = cc in
          subst (NamesEdits n) it h
      by false false true d k =
          let it : NotCharBoundary x.index x.edit.start ≡ e = cc in
          subst (NamesEdits n) it h
      by false false false true k =
          let it : NotCharBoundary x.index x.edit.end ≡ e = cc in
          subst (NamesEdits n) it h
      by false false false false k = absurd (cc)

  -- the first one names an edit of the list
  first-names : (i : ℕ) (es : List TextEdit) (e : EditError) → i + length es ≤ n
      → first_own_fault text (listed_from i es) ≡ Some e → NamesEdits n e
  first-names i [] e h is = absurd (cc)
  first-names i (x ∷ xs) e h is =
      either (NamesEdits n e) (own_fault text (record { index = i; edit = x })) _ e
      (own-names (record { index = i; edit = x }) e (omega (arith, h)))
      (first-names (i + 1) xs e (omega (arith, h))) is

-- an overlap of neighbors names them
neighbor-names : (n : ℕ) (xs : List ListedEdit) (e : EditError)
    → AllByRecursion (λ x. x.index < n) xs → neighbor_fault xs ≡ Some e → NamesEdits n e
neighbor-names n [] e all is = absurd (cc)
neighbor-names n (x ∷ []) e all is = absurd (cc)
neighbor-names n (x ∷ (y ∷ ys)) e all is =
    by (nat_lt y.edit.start x.edit.end) (neighbor-names n (y ∷ ys) e all.1) is
  where
    by : (b : Bool) → (neighbor_fault (y ∷ ys) ≡ Some e → NamesEdits n e)
        → (if b then Some (Overlap y.index x.index) else neighbor_fault (y ∷ ys)) ≡ Some e
        → NamesEdits n e
    by true later k =
        let it : Overlap y.index x.index ≡ e = cc in
        subst (NamesEdits n) it (all.1.0, all.0)
    by false later k = later k

-- the indices of a list's edits are below its length
listed-below : (i n : ℕ) (es : List TextEdit) → i + length es ≤ n
    → AllByRecursion (λ (x : ListedEdit). x.index < n) (listed_from i es)
listed-below i n [] h = tt
listed-below i n (e ∷ es) h = (omega (arith, h), listed-below (i + 1) n es (omega (arith, h)))

-- the fault of a list names its edits
pub fault-names : (text : List ℕ) (es : List TextEdit) (e : EditError)
    → fault text es ≡ Some e → NamesEdits (length es) e
fault-names text es e is =
    let n = length es in
    either (NamesEdits n e) (first_own_fault text (listed es))
    (neighbor_fault (in_order (listed es))) e (first-names text n 0 es e (omega arith))
    (neighbor-names n (in_order (listed es)) e
    (all-in_order (λ x. x.index < n) (listed es) (listed-below 0 n es (omega arith)))) is

-- an error that names edits of a list names edits of another list by their indices there
by-indices-names : (indices : List ℕ) (m n : ℕ) (e : EditError)
    → ((k : ℕ) → k < m → slice_index indices k < n) → NamesEdits m e
    → NamesEdits n (by_indices indices e)
by-indices-names indices m n (Reversed i) below h = below i h
by-indices-names indices m n (PastEnd i len) below h = below i h
by-indices-names indices m n (NotCharBoundary i byte) below h = below i h
by-indices-names indices m n (Overlap i j) below h = (below i h.0, below j h.1)
by-indices-names indices m n OutOfMemory below h = absurd h

-- indices are below the length of the list
enumerated-below : {X : Type 0} (i n : ℕ) (xs : List X) → i + length xs ≤ n
    → AllByRecursion (λ (x : ℕ × X). x.0 < n) (enumerate_from i xs)
enumerated-below i n [] h = tt
enumerated-below i n (x ∷ xs) h = (
  omega (arith, h),
  enumerated-below (i + 1) n xs (omega (arith, h)),
)

-- what holds of the first parts of pairs holds of a list of these
firsts : {X : Type 0} (P : ℕ → Type 0) (xs : List (ℕ × X))
    → AllByRecursion (λ x. P x.0) xs → AllByRecursion P (map (λ x. x.0) xs)
firsts P [] h = tt
firsts P (x ∷ xs) h = (h.0, firsts P xs h.1)

-- a file has as many indices as edits
pub same-count : {Id : Type 0} (same : Id → Id → Bool) (edits : List (edit.Edit Id)) (id : Id)
    → length (edits_of_file same edits id) ≡ length (indices_of_file same edits id)
same-count same edits id = simp length-map

module _ {Id : Type 0} (database : FileDatabase Id) (edits : List (edit.Edit Id)) where
  -- the indices of a file's edits are indices of the list
  file-below : (id : Id) (k : ℕ) → k < length (edits_of_file database.same edits id)
      → slice_index (indices_of_file database.same edits id) k < length edits
  file-below id k h =
      let n = length edits in
      let found = indexed_edits database.same edits id in
      All-from_recursion (λ i. i < n) (map (λ x. x.0) found)
      (firsts (λ i. i < n) found (all-filter (λ x. x.0 < n) _ (enumerate_from 0 edits)
      (enumerated-below 0 n edits (omega arith)))) k 0
      (rw length-map (rw length-map at h))

  -- the fault of a file names edits of the list
  file-names : (id : Id) (e : EditError) → file_fault database edits id ≡ Some (Edit e)
      → NamesEdits (length edits) e
  file-names id e =
      either (NamesEdits (length edits) e) (option_map Files (database.failure id Source))
      (option_map Edit (edits_fault database edits id)) (Edit e)
      (λ is. let p = unmapped Files _ _ is in absurd (cc (p.2)))
      (λ is.
      let p = unmapped Edit _ _ is in
      let same : p.0 ≡ e = cc (p.2) in
      let q = unmapped (by_indices (indices_of_file database.same edits id)) _ _ p.1 in
      subst (NamesEdits (length edits)) same
      (subst (NamesEdits (length edits)) q.2
      (by-indices-names (indices_of_file database.same edits id)
      (length (edits_of_file database.same edits id)) (length edits) q.0 (file-below id)
      (fault-names (database.file id).text (edits_of_file database.same edits id) q.0 q.1))))

  -- so does the first one
  files-name : (ids : List Id) (e : EditError)
      → first_fault (map (file_fault database edits) ids) ≡ Some (Edit e)
      → NamesEdits (length edits) e
  files-name [] e is = absurd (cc)
  files-name (id ∷ ids) e is =
      either (NamesEdits (length edits) e) (file_fault database edits id) _ (Edit e)
      (file-names id e) (files-name ids e) is

pub errors-name-edits : {Id : Type 0} → ErrorsNameEdits Id
errors-name-edits {Id} database edits e is =
    files-name database edits (edited_files database.same edits) e is
