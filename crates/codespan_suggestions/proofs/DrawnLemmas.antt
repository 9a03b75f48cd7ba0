-- The files of a suggestion, one after another, for the clauses `files` and `failed` of
-- `draw_files`.
use Rattle.codespan_core.proofs.Std.{◌≡◌, ◌++◌, ◌+◌, ◌<◌, ◌∙◌, ◌∷◌}
use Rattle.codespan_core.proofs.Std.{ℕ, List, [], map, drop, length, get_or, sym, ap, drop_more}
use Rattle.codespan_core.proofs.Std.{Option, Some, None, filter, filter-append, append_assoc, subst}
use Rattle.codespan_core.proofs.Std.{AllByRecursion, All-from_recursion, false≢true}
use Rattle.std.specs.Prelude.{IsSome, IfSome, unwrap_or}
use Rattle.std.specs.Option.{option_or}
use Rattle.codespan_core.specs.FileModel.{FileModel, name_text}
use Rattle.codespan_core.specs.declared.files.Location.{Location}
use Rattle.codespan_edits.specs.Edits.{TextEdit}
use Rattle.codespan_edits.specs.Numbers.{NumberedRow}
use Rattle.codespan_edits.specs.DrawnRows.{Context, diff_hunks}
use Rattle.codespan_suggestions.specs.DrawnText.{location_in, usual_end}
use Rattle.codespan_suggestions.specs.DrawnFiles.{DrawnFile, has_hunk, drawn, least_start}
use Rattle.codespan_suggestions.specs.Faults.{first_fault}
use Rattle.codespan_suggestions.specs.declared.error.SuggestionError.{SuggestionError}

module _ {Id : Type 0} (items : List Id) (i : ℕ) (x : Id) (inside : i < length items)
    (is : x ≡ get_or items i x) where
  -- the file is the next one
  next : drop i items ≡ x ∷ drop (i + 1) items
  next = drop_more items i x inside ∙ ap (λ (y : Id). y ∷ drop (i + 1) items) (sym is)

  -- it has what all have
  pub has-here : (P : Id → Type 0) → AllByRecursion P items → P x
  has-here P all = subst P (sym is) (All-from_recursion P items all i x inside)

  -- it is shown, or not
  pub files-more : (draw : Id → DrawnFile) (kept new : List DrawnFile) (file : DrawnFile)
      (all : List DrawnFile)
      → new ≡ kept ++ filter has_hunk (file ∷ []) → file ≡ draw x
      → kept ++ filter has_hunk (map draw (drop i items)) ≡ all
      → new ++ filter has_hunk (map draw (drop (i + 1) items)) ≡ all
  files-more draw kept new file all added drawn was =
      let rest = map draw (drop (i + 1) items) in
      ap (λ fs. fs ++ filter has_hunk rest) added
      ∙ (append_assoc kept (filter has_hunk (file ∷ [])) (filter has_hunk rest)
      ∙ (ap (λ fs. kept ++ fs) (sym (filter-append has_hunk (file ∷ []) rest))
      ∙ (ap (λ f. kept ++ filter has_hunk (f ∷ rest)) drawn
      ∙ (ap (λ ids. kept ++ filter has_hunk (map draw ids)) (sym next) ∙ was))))

  -- nothing is wrong with it
  pub none-more : (fault : Id → Option SuggestionError) (o : Option SuggestionError)
      → o ≡ first_fault (map fault (drop i items)) → fault x ≡ None
      → o ≡ first_fault (map fault (drop (i + 1) items))
  none-more fault o was none =
      was ∙ (ap (λ ids. first_fault (map fault ids)) next
      ∙ ap (λ a. option_or a (first_fault (map fault (drop (i + 1) items)))) none)

  -- or this is
  pub fault-first : (fault : Id → Option SuggestionError) (o : Option SuggestionError)
      (e : SuggestionError)
      → o ≡ first_fault (map fault (drop i items)) → fault x ≡ Some e → o ≡ Some e
  fault-first fault o e was here =
      was ∙ (ap (λ ids. first_fault (map fault ids)) next
      ∙ ap (λ a. option_or a (first_fault (map fault (drop (i + 1) items)))) here)

-- a name that is stated
pub name-is : (o : Option (List ℕ)) (text : List ℕ) → IsSome o
    → IfSome o (λ bytes. text ≡ bytes)
    → text ≡ unwrap_or o []
name-is None text stated is = absurd (false≢true stated)
name-is (Some bytes) text stated is = is

-- a file by its parts
pub drawn-is : (context : Context) (file : FileModel) (edits : List TextEdit) (name end : List ℕ)
    (location : Location) (hunks : List (List NumberedRow))
    → name ≡ name_text file → location ≡ location_in file.text (least_start edits)
    → end ≡ usual_end file.text → hunks ≡ diff_hunks context file.text edits
    → (record {
      locus = record { name = name; location = location };
      usual_end = end;
      hunks = hunks;
    }) ≡ drawn context file edits
drawn-is context file edits name end location hunks p q r s =
    λ i. record {
      locus = record { name = p i; location = q i };
      usual_end = r i;
      hunks = s i;
    }
