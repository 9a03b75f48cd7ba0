-- For the clauses of `cases::apply_to_last` and `Case::continue_source`: the last one of several,
-- and what is done to it.
use Rattle.std.proofs.Common.{zero, suc, ◌≡◌, ◌+◌, ◌-◌, ◌<◌, ℕ, List, []}
use Rattle.std.proofs.Common.{◌∷◌, ◌++◌, length, map, Result, Ok, Err, OnOk, IfErr, refl}
use Rattle.std.proofs.Common.{sym, ◌∙◌, ap, subst, inl, inr, ◌⊎◌, arith, string_bytes}
use Rattle.std.proofs.Common.{String, Global}
use Rattle.std.proofs.lemmas.List.{map-append}
use Rattle.std.specs.Prelude.{slice_set, slice_index_or}
use Rattle.gallery_cases.specs.declared.case.Case.{Case}
use Rattle.gallery_cases.specs.declared.case.File.{File}
use Rattle.gallery_cases.specs.declared.errors.LineError.{LineError}
use Rattle.gallery_cases.specs.declared.errors.LineError.TheVariants.{NoCase, NoFile, NoSuggestion}
use Rattle.gallery_cases.specs.declared.errors.LineError.TheVariants.{OutOfMemory, UnknownWord}
use Rattle.gallery_cases.specs.declared.errors.LineError.TheVariants.{UnknownName, BadNumber}
use Rattle.gallery_cases.specs.declared.errors.LineError.TheVariants.{BadEscape}
use Rattle.codespan_edits.specs.declared.edit.Edit.{Edit}
use Rattle.codespan_suggestions.specs.Views.{edit_view, suggestion_view}
use Rattle.codespan_suggestions.specs.declared.suggestion.Suggestion.{Suggestion}
use Rattle.gallery_cases.specs.declared.statement.Statement.{Statement}
use Rattle.gallery_cases.specs.Cases.{Applies, AppliesToLast, FailsAtLast, FailsToApply}
use Rattle.gallery_cases.specs.Cases.{AddsEdit, ContinuesSource, file_view}

-- a list is the elements before the last one, and that one; the last one can be set
pub record IsLast {X : Type 0} (xs : List X) (k : ℕ) (old new : X) : Type 0 where
  pub front : List X
  pub was : xs ≡ front ++ old ∷ []
  pub is : slice_set xs k new ≡ front ++ new ∷ []

-- the element at the last index is the last one
pub last_one : {X : Type 0} (xs : List X) (k : ℕ) (old new : X) → k + 1 ≡ length xs
    → old ≡ slice_index_or xs k old → IsLast xs k old new
last_one [] k old new count at = absurd (omega arith)
last_one (x ∷ []) zero old new count at =
    record { front = []; was = ap (λ y. y ∷ []) (sym at); is = refl }
last_one (x ∷ y ∷ ys) zero old new count at = absurd (omega arith)
last_one (x ∷ xs) (suc k) old new count at =
    let left : IsLast xs k old new = last_one xs k old new (omega arith) at in
    record {
      front =
          x ∷ left.front;
      was = ap (λ ys. x ∷ ys) left.was;
      is = ap (λ ys. x ∷ ys) left.is;
    }

-- the statement has been applied to the last case
pub last_applied : (cases : List Case) (n : ℕ) (statement : Statement) (old new : Case)
    (r : Result (Unit {0}) LineError)
    → n ≡ length cases → 0 < n → old ≡ slice_index_or cases (n - 1) old
    → OnOk r (Applies statement old new)
    → OnOk r (AppliesToLast statement cases (slice_set cases (n - 1) new))
last_applied cases n statement old new (Ok done) count some at applied =
    let last : IsLast cases (n - 1) old new = last_one cases (n - 1) old new (omega arith) at in
    record {
      front =
          last.front;
      old = old;
      new = new;
      was = last.was;
      is = last.is;
      applied = applied;
    }
last_applied cases n statement old new (Err line_error) count some at applied = tt

-- the statement could not be applied to the last case
pub last_failed : (cases : List Case) (n : ℕ) (statement : Statement) (old : Case)
    (r : Result (Unit {0}) LineError)
    → n ≡ length cases → 0 < n → old ≡ slice_index_or cases (n - 1) old
    → IfErr r (FailsToApply statement old) → IfErr r (FailsAtLast statement cases)
last_failed cases n statement old (Ok done) count some at failed = tt
last_failed cases n statement old (Err line_error) count some at failed =
    let last : IsLast cases (n - 1) old old = last_one cases (n - 1) old old (omega arith) at in
    by line_error failed (last.front, old, last.was, failed)
  where
    by : (e : LineError) → FailsToApply statement old e
        → (front : List Case) × (case : Case) × (cases ≡ front ++ case ∷ [])
        × FailsToApply statement case e
        → FailsAtLast statement cases e
    by NoCase failed at_last = absurd failed
    by NoFile failed at_last = at_last
    by NoSuggestion failed at_last = at_last
    by OutOfMemory failed at_last = at_last
    by UnknownWord failed at_last = at_last
    by UnknownName failed at_last = at_last
    by BadNumber failed at_last = at_last
    by BadEscape failed at_last = at_last

-- the text continues the last file
pub last_continues : (files : List File) (n : ℕ) (text : List ℕ) (old : File)
    (source : String Global)
    → n ≡ length files → 0 < n → old ≡ slice_index_or files (n - 1) old
    → string_bytes source ≡ string_bytes old.source ++ text
    → ContinuesSource text (map file_view files)
    (map file_view (slice_set files (n - 1) (record { name = old.name; source = source })))
last_continues files n text old source count some at is =
    let new : File = record { name = old.name; source = source } in
    let last : IsLast files (n - 1) old new = last_one files (n - 1) old new (omega arith) at in
    record {
      front = map file_view last.front;
      name = string_bytes old.name;
      source = string_bytes old.source;
      was = ap (map file_view) last.was ∙ map-append file_view last.front (old ∷ []);
      is =
          ap (map file_view) last.is ∙ map-append file_view last.front (new ∷ [])
          ∙ ap (λ bytes. map file_view last.front ++ (string_bytes old.name, bytes) ∷ []) is;
    }

-- the edit is added to the last suggestion
pub last_edited : (suggestions : List (Suggestion ℕ)) (n : ℕ) (edit : Edit ℕ)
    (old new : Suggestion ℕ)
    → n ≡ length suggestions → 0 < n → old ≡ slice_index_or suggestions (n - 1) old
    → suggestion_view new
    ≡ record (suggestion_view old) {
      edits = (suggestion_view old).edits ++ edit_view edit ∷ [];
    }
    → AddsEdit (edit_view edit) (map suggestion_view suggestions)
    (map suggestion_view (slice_set suggestions (n - 1) new))
last_edited suggestions n edit old new count some at is =
    let last : IsLast suggestions (n - 1) old new =
    last_one suggestions (n - 1) old new (omega arith) at in
    record {
      front = map suggestion_view last.front;
      last = suggestion_view old;
      was = ap (map suggestion_view) last.was ∙ map-append suggestion_view last.front (old ∷ []);
      is =
          ap (map suggestion_view) last.is ∙ map-append suggestion_view last.front (new ∷ [])
          ∙ ap (λ s. map suggestion_view last.front ++ s ∷ []) is;
    }
