-- Where the snippets of files start, one label after another, for the clause `collected` of
-- `collect`.
use Rattle.codespan_core.proofs.Std.{common_steps, rules, arith, ◌≡◌, ℕ, Bool, true, false}
use Rattle.codespan_core.proofs.Std.{List, [], ◌∷◌, ◌++◌, Some, append-nil}
use Rattle.codespan_core.proofs.Std.{if◌then◌else◌, AllByRecursion, map-append, filter-append}
use Rattle.codespan_core.proofs.Std.{fold-append, not, ◌&&◌, ◌||◌}
use Rattle.codespan_core.specs.Labels.{is_primary}
use Rattle.codespan_output.specs.Snippets.{LabelInFile}
use Rattle.codespan_views.specs.Private.{file_least_starts, least_if_any, least_with, no_starts}
use Rattle.codespan_views.specs.Private.{least_starts_with, label_starts}
use Rattle.codespan_output.proofs.Utf8.ListElements.{all-weaker, filter-nothing}

-- the least of some numbers and one more
least-more : (ns : List ℕ) (n : ℕ)
    → least_if_any (ns ++ n ∷ []) ≡ Some (least_with (least_if_any ns) n)
least-more ns n = grind (arith, common_steps, fold-append)

module _ {Id : Type 0} (same : Id → Id → Bool) (xs : List (LabelInFile Id)) (x : LabelInFile Id)
    (id : Id)
  where
    -- the start of the label, where it counts
    abbrev own_start : Bool → List ℕ
    own_start b = if b then x.label.start ∷ [] else []

    -- the starts of labels, with one more
    starts-more : (only : Bool)
        → label_starts same id only (xs ++ x ∷ []) ≡ label_starts same id only xs ++ own_start
        (same id x.file_id && (not only || is_primary x.label))
    starts-more only = grind (arith, common_steps, filter-append, map-append)

    -- a label of another file changes nothing
    pub start-others : same id x.file_id ≡ false
        → file_least_starts same (xs ++ x ∷ []) id ≡ file_least_starts same xs id
    start-others f = search (rules, starts-more, append-nil)

    -- one of the file adds its start
    pub start-own : same id x.file_id ≡ true
        → file_least_starts same (xs ++ x ∷ []) id
        ≡ least_starts_with (file_least_starts same xs id) x.label
    start-own t = search (rules, least-more, starts-more, append-nil)

-- labels of other files change nothing
pub start-unknown : {Id : Type 0} (same : Id → Id → Bool) (xs : List (LabelInFile Id)) (id : Id)
    → AllByRecursion (λ (x : LabelInFile Id). same id x.file_id ≡ false) xs
    → file_least_starts same xs id ≡ no_starts
start-unknown same xs id none = search (rules, filter-nothing, all-weaker, none)
