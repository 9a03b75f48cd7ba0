-- Snippet lines that are rendered one after another, what is written and what is looked up, for the
-- clauses of `render_lines`.
use Rattle.codespan_core.proofs.Std.{map-append, ◌≡◌, ℕ, List, [], ◌∷◌, ◌++◌}
use Rattle.codespan_core.proofs.Std.{length, drop, Option, Ok, Err, refl, sym, ap, ◌∙◌, drop-drop}
use Rattle.codespan_core.proofs.Std.{append-nil, arith, common_steps}
use Rattle.codespan_core.specs.FileModel.{FileDatabase, or_failure}
use Rattle.codespan_core.specs.Streams.{Stream}
use Rattle.codespan_core.specs.WriterLaw.{Sink}
use Rattle.codespan_output.specs.Types.{Error}
use Rattle.codespan_output.specs.OutputStreams.{fitted_stream}
use Rattle.codespan_output.specs.Private.LineViews.{context_view}
use Rattle.codespan_views.specs.declared.snippet.Snippet.{Snippet}
use Rattle.codespan_views.specs.Private.{lookups_with, HasLines, RendersLines, SnippetLine, Labeled}
use Rattle.codespan_views.specs.Private.{Filled, Break, filled_lines_of, rows_of_lines, failure_of}
use Rattle.codespan_views.specs.Private.{model_of, rows_of_line}
use Rattle.codespan_output.proofs.Fitting.FittedStreams.{fitted-append}
use Rattle.codespan_views.proofs.Errors.First.{first_error-append}
use Rattle.codespan_views.proofs.Errors.LookupRuns.{IsLeft, left_after, left_as, left_cut}
use Rattle.codespan_views.proofs.Errors.LookupRuns.{run_of_lookup}

module _ {F Id Name Source : Type 0} (database : F → FileDatabase Id)
    (snippet : Snippet F Id Name Source) where
  -- the rows of these snippet lines
  abbrev rows : List SnippetLine → Stream
  rows xs =
      fitted_stream snippet.max_width (context_view snippet.context)
      (rows_of_lines (model_of database snippet.file) snippet.num_multi_labels xs)

  -- what the lookups of the filled ones fail with, where these are their known numbers
  abbrev lookups : List ℕ → List SnippetLine → Option Error
  lookups numbers xs =
      failure_of database snippet.file (lookups_with numbers (filled_lines_of xs))

  -- the numbers that are left after those of these snippet lines
  abbrev pub numbers_after : List ℕ → List SnippetLine → List ℕ
  numbers_after numbers xs = drop (length (filled_lines_of xs)) numbers

  -- these snippet lines are left of others, with these numbers, and they have what all have
  pub record LinesLeft (numbers : List ℕ) (whole : List SnippetLine) (old : Sink)
      (left : List ℕ)
      (rest : List SnippetLine) (now : Sink) : Type 0 where
    pub is_left : IsLeft (lookups numbers whole) old (rows whole) (lookups left rest) now
        (rows rest)
    pub taken : numbers_after left rest ≡ numbers_after numbers whole
    pub has : HasLines database snippet left rest

  -- the rows of a line, and then of others
  rows-cons : (x : SnippetLine) (ys : List SnippetLine)
      → rows (x ∷ ys) ≡ rows (x ∷ []) ++ rows ys
  rows-cons x ys =
      let f = model_of database snippet.file in
      let own = rows_of_line f snippet.num_multi_labels x in
      let context = context_view snippet.context in
      fitted-append snippet.max_width context own
      (rows_of_lines f snippet.num_multi_labels ys)
      ∙ ap (λ rs. fitted_stream snippet.max_width context rs ++ rows ys) (sym (append-nil own))

  -- the lookups
  lookups-cons : (left : List ℕ) (x : SnippetLine) (ys : List SnippetLine)
      → lookups left (x ∷ ys)
      ≡ or_failure (lookups left (x ∷ [])) (lookups (numbers_after left (x ∷ [])) ys)
  lookups-cons left (Labeled l annotations) ys = refl
  lookups-cons left (Filled l annotations) ys = grind
      (arith, common_steps, first_error-append, map-append, append-nil)
  lookups-cons left (Break annotations) ys = refl

  -- the numbers
  taken-cons : (left : List ℕ) (x : SnippetLine) (ys : List SnippetLine)
      → numbers_after (numbers_after left (x ∷ [])) ys ≡ numbers_after left (x ∷ ys)
  taken-cons left (Labeled l annotations) ys = refl
  taken-cons left (Filled l annotations) ys = grind (arith, common_steps, drop-drop)
  taken-cons left (Break annotations) ys = refl

  -- what the others have
  has-later : (left : List ℕ) (x : SnippetLine) (ys : List SnippetLine)
      → HasLines database snippet left (x ∷ ys)
      → HasLines database snippet (numbers_after left (x ∷ [])) ys
  has-later left (Labeled l annotations) ys has = grind (arith, common_steps)
  has-later left (Filled l annotations) ys has = grind (arith, common_steps)
  has-later left (Break annotations) ys has = grind (arith, common_steps)

module _ {F Id Name Source : Type 0} {database : F → FileDatabase Id}
    {snippet : Snippet F Id Name Source} {numbers : List ℕ} {old : Sink} {left : List ℕ}
    {now : Sink} {whole : List SnippetLine} where
  -- the same are left, in other words
  pub left-same : {rest others : List SnippetLine} → others ≡ rest
      → LinesLeft database snippet numbers whole old left rest now
      → LinesLeft database snippet numbers whole old left others now
  left-same same before = rw same before

  -- the first of them are these
  pub left-first : {rest gap first : List SnippetLine} (more : List SnippetLine)
      → rest ≡ gap ++ more → gap ≡ first
      → LinesLeft database snippet numbers whole old left rest now
      → LinesLeft database snippet numbers whole old left (first ++ more) now
  left-first more whole_is first_is before = rw (← first_is, ← whole_is) before

  -- nothing is left
  pub left-none : LinesLeft database snippet numbers whole old left [] now
      → RendersLines database snippet numbers whole old (Ok tt) now
  left-none before = record { rendered = before.is_left.finish (run_of_lookup refl) }

  module _ {x : SnippetLine} {ys : List SnippetLine}
      (before : LinesLeft database snippet numbers whole old left (x ∷ ys) now) where
    -- the next line, and the others
    apart : IsLeft (lookups database snippet numbers whole) old (rows database snippet whole)
        (or_failure (lookups database snippet left (x ∷ []))
        (lookups database snippet (numbers_after database snippet left (x ∷ [])) ys)) now
        (rows database snippet (x ∷ []) ++ rows database snippet ys)
    apart =
        left_as (lookups-cons database snippet left x ys) (rows-cons database snippet x ys)
        before.is_left

    -- it was cut short
    pub left-cut : {new : Sink} {e : Error}
        → RendersLines database snippet left (x ∷ []) now (Err e) new
        → RendersLines database snippet numbers whole old (Err e) new
    left-cut run = record { rendered = left_cut _ _ run.rendered apart }

    -- it is rendered
    pub left-more : {new : Sink} {later : List ℕ}
        → RendersLines database snippet left (x ∷ []) now (Ok tt) new
        → later ≡ numbers_after database snippet left (x ∷ [])
        → LinesLeft database snippet numbers whole old later ys new
    left-more run later_is = rw later_is (record {
      is_left = left_after _ _ run.rendered apart;
      taken = taken-cons database snippet left x ys ∙ before.taken;
      has = has-later database snippet left x ys before.has;
    })
