-- The lines that are looked up for a label, one after another, for the clauses of `collect_lines`.
use Rattle.codespan_core.proofs.Std.{common_steps, ◌≡◌, ℕ, ◌+◌, ◌-◌, ◌^◌}
use Rattle.codespan_core.proofs.Std.{◌<◌, ◌≤◌, Bool, true, false, List, [], ◌∷◌}
use Rattle.codespan_core.proofs.Std.{◌++◌, length, Option, Some, None, refl, sym, ap, ◌∙◌}
use Rattle.codespan_core.proofs.Std.{arith, ⊎_elim, if◌then◌else◌, flat_map, fold, max, min}
use Rattle.codespan_core.proofs.Std.{range_with_len, le-leb, lt-leb, lt-ltb, cases_lt, append_assoc}
use Rattle.codespan_core.proofs.Std.{not}
use Rattle.codespan_core.specs.FileModel.{Lookup, line_count, or_failure}
use Rattle.codespan_core.specs.LawfulFiles.{IsLawful, FailsPastLastLine, IsPastLastLineError}
use Rattle.codespan_core.specs.Labels.{first_line, last_line}
use Rattle.codespan_core.specs.FileModel.Lookup.{LineRange, LineNumber}
use Rattle.codespan_core.specs.Lemmas.Lines.{lines_have_indices, lines_within_text}
use Rattle.codespan_output.specs.Types.{Error}
use Rattle.codespan_output.specs.Lookups.{ends_context_lines, is_looked_up, line_lookups}
use Rattle.codespan_output.specs.Lookups.{lookup_past_end}
use Rattle.codespan_output.specs.declared.padding.PaddingWidth.{PaddingWidth}
use Rattle.codespan_views.specs.Private.{LabelToCollect, IsLookedUp, FindsLineAnnotations}
use Rattle.codespan_views.specs.Private.{FindsLabelAnnotations, WidensPadding, WidensPaddingForLine}
use Rattle.codespan_views.specs.Private.{lines_failure, failure_if_looked_up}
use Rattle.codespan_views.specs.Private.{line_failure_unless_past_end, Annotation}
use Rattle.codespan_views.specs.Private.{annotations_if_looked_up, lookups_if_looked_up}
use Rattle.codespan_views.specs.Private.{RustAnnotation, failure_in, AppendsAnnotationsOf}
use Rattle.codespan_views.specs.Private.{digit_count_if_spanned, label_digit_counts}
use borrow.Author.Tests.{le-ltb}
use Rattle.codespan_output.proofs.DrawnLines.Greatest.{greatest-append}
use Rattle.codespan_views.proofs.Labels.Collecting.{AppendsAnnotations-both}
use Rattle.codespan_views.proofs.Labels.Collecting.{AppendsAnnotations-none}
use Rattle.codespan_views.proofs.Errors.First.{first_error-lookups, or_failure-none}
use Rattle.codespan_views.proofs.Errors.First.{or_failure-some}
use Rattle.codespan_views.proofs.Lines.RangeMaps.{flat_map_filtered, after_both, above_both}
use Rattle.codespan_views.proofs.Lines.RangeMaps.{below_both, near_after, flat_map_none}
use Rattle.codespan_views.proofs.Lines.RangeMaps.{flat_map_split}

module _ {Id : Type 0} (x : LabelToCollect Id) where
  -- what some lookups of the file fail with
  abbrev failed : List Lookup → Option Error
  failed = failure_in x.failure x.file_id

  -- the lines from this one on
  abbrev lines_from : ℕ → List ℕ
  lines_from n = range_with_len n (line_count x.file - n)

  -- the annotations of a line, where it is looked up
  abbrev annotations_on : ℕ → List Annotation
  annotations_on = annotations_if_looked_up x.config x.file x.label x.file_index x.index x.lane

  -- its lookups, where it is looked up
  abbrev lookups_on : ℕ → List Lookup
  lookups_on = lookups_if_looked_up x.config x.file x.label

  -- the lookup of the line past the last one, if it is an error
  abbrev past_end : List Lookup
  past_end = lookup_past_end x.config x.file (x.failure x.file_id) x.label

  -- a line that is not looked up is not spanned
  no_digits : (l : ℕ) → is_looked_up x.config x.file x.label l ≡ false
      → digit_count_if_spanned x.file x.label l ≡ []
  no_digits l skipped = grind (arith, common_steps)

  -- a line of the file, and those after it
  line_first : (n : ℕ) → n < line_count x.file → lines_from n ≡ n ∷ lines_from (n + 1)
  line_first n inside = grind (arith, common_steps)

  -- the file has the lines that the label starts and ends on
  pub record HasEnds : Type 0 where
    pub first : first_line x.file x.label < line_count x.file
    pub last : last_line x.file x.label < line_count x.file

  -- the lines from this one on are left: with their annotations those of the label are there, the
  -- padding is to fit those that the label spans, and their lookups decide what all fail with
  pub record CollectsLines (old new : List (RustAnnotation Id)) (width wider : PaddingWidth)
      (n : ℕ) : Type 0 where
    pub within : n ≤ line_count x.file
    pub added : {last : List (RustAnnotation Id)}
        → AppendsAnnotationsOf x.file new last (flat_map annotations_on (lines_from n))
        → FindsLabelAnnotations x old last
    pub counted : fold max width.digit_count (label_digit_counts x.file x.label)
        ≡ fold max wider.digit_count
        (flat_map (digit_count_if_spanned x.file x.label) (lines_from n))
    pub failure : lines_failure x ≡ failed (flat_map lookups_on (lines_from n) ++ past_end)

  -- no line is left
  pub record CollectsLabel (old new : List (RustAnnotation Id)) (width wider : PaddingWidth) : Type
      0 where
    pub added : FindsLabelAnnotations x old new
    pub counted : WidensPadding x width wider
    pub succeeded : lines_failure x ≡ None

module _ {Id : Type 0} {x : LabelToCollect Id} where
  -- no line below the first context line is looked up
  pub collected-start : {xs : List (RustAnnotation Id)} {width : PaddingWidth} {n : ℕ}
      → HasEnds x
      → n ≤ last_line x.file x.label
      → n ≤ first_line x.file x.label - x.config.before_label_lines
      → CollectsLines x xs xs width width n
  collected-start {width = width} {n} there low far = record {
    within = within;
    added = λ more. rw (flat_map_filtered, start (annotations_on x) (λ l h. rw h)) more;
    counted = rw (start (digit_count_if_spanned x.file x.label) (no_digits x));
    failure = rw (flat_map_filtered, start (lookups_on x) (λ l h. rw h));
  }
    where
      within : n ≤ line_count x.file
      within = omega (arith, there.last)

      too_far : (l : ℕ) → l < n → is_looked_up x.config x.file x.label l ≡ false
      too_far l below = grind (arith, common_steps, below_both)

      start : {X : Type 0} (h : ℕ → List X)
          → ((l : ℕ) → is_looked_up x.config x.file x.label l ≡ false → h l ≡ [])
          → flat_map h (range_with_len 0 (line_count x.file)) ≡ flat_map h (lines_from x n)
      start h none =
          flat_map_split h n (line_count x.file) within
          ∙ rw (flat_map_none h 0 n (λ l _ high. none l (too_far l (omega arith))))

  module _ {xs ys : List (RustAnnotation Id)} {width wider : PaddingWidth} {n : ℕ}
      (g : CollectsLines x xs ys width wider n) where
    -- one more line
    pub collected-line : {zs : List (RustAnnotation Id)} {widest : PaddingWidth} → HasEnds x
        → n ≤ max (last_line x.file x.label + x.config.after_label_lines)
        (first_line x.file x.label)
        → (IsLookedUp x n → n < line_count x.file) → FindsLineAnnotations x ys zs n
        → WidensPaddingForLine x wider widest n → failure_if_looked_up x n ≡ None
        → CollectsLines x xs zs width widest (n + 1)
    collected-line there near inside adds counts none =
        let here = line_first x n in_file in
        let apart = first_error-lookups x.failure x.file_id (lookups_on x n) in
        record {
          within = omega (arith, in_file);
          added = λ more. g.added (rw here (AppendsAnnotations-both adds more));
          counted = g.counted ∙ rw (here, greatest-append, sym counts);
          failure = g.failure ∙ rw (here, append_assoc, apart, none);
        }
      where
        in_file : n < line_count x.file
        in_file =
            ⊎_elim (λ (h : n < line_count x.file). h)
            (λ (past : line_count x.file ≤ n). inside (after_both _ _ _ _ n
            (omega (arith, there.first)) (omega (arith, there.last)) (omega (arith, there.first))))
            (cases_lt n (line_count x.file))

    -- no line that is left is looked up
    collected-up : ((l : ℕ) → n ≤ l → l < line_count x.file
        → is_looked_up x.config x.file x.label l ≡ false)
        → past_end x ≡ [] → CollectsLabel x xs ys width wider
    collected-up skipped no_lookup_past_end = record {
      added = g.added (rw (nothing (annotations_on x) (λ l h. rw h)) AppendsAnnotations-none);
      counted = sym
          (g.counted ∙ rw (nothing (digit_count_if_spanned x.file x.label) (no_digits x)));
      succeeded = g.failure ∙ rw (nothing (lookups_on x) (λ l h. rw h), no_lookup_past_end);
    }
      where
        nothing : {X : Type 0} (h : ℕ → List X)
            → ((l : ℕ) → is_looked_up x.config x.file x.label l ≡ false → h l ≡ [])
            → flat_map h (lines_from x n) ≡ []
        nothing h none =
            flat_map_none h n (line_count x.file - n)
            (λ l low high. none l (skipped l low (omega (arith, g.within))))

    -- the end of the file
    pub collected-context : line_count x.file ≤ n
        → ends_context_lines (x.failure x.file_id (LineRange n)) ≡ true
        → CollectsLabel x xs ys width wider
    collected-context past ends =
        let here : n ≡ line_count x.file = omega (arith, g.within) in
        let ended = rw here at ends in
        let none : past_end x ≡ [] = grind (arith, common_steps) in
        collected-up (λ l low high. absurd (omega arith)) none

    -- the end of the context, or of all indices
    pub collected-reach : first_line x.file x.label < n
        → min (last_line x.file x.label + x.config.after_label_lines + 1) (2 ^ 64) ≤ n
        → n ≤ 2 ^ 64
        → IsLawful x.file → FailsPastLastLine x.file n (x.failure x.file_id (LineRange n))
        → CollectsLabel x xs ys width wider
    collected-reach first far below law past_last_line =
        ⊎_elim (λ (h : last_line x.file x.label + x.config.after_label_lines < n). collected-up
        (λ l low high. above_both _ _ _ _ l (omega arith) (omega arith))
        (rw (lt-leb (line_count x.file) (last_line x.file x.label + x.config.after_label_lines)
        (omega (arith, g.within)))))
        (λ (h : n ≤ last_line x.file x.label + x.config.after_label_lines).
        at_last (omega (arith, h, far, below)))
        (cases_lt (last_line x.file x.label + x.config.after_label_lines) n)
      where
        too_large : (o : Option Error) → IsPastLastLineError o → ends_context_lines o ≡ true
        too_large o h = grind (arith, common_steps)

        -- a file that is not there has one line
        is_existing : n ≡ 2 ^ 64 → (b : Bool) → x.file.exists ≡ b → x.file.exists ≡ true
        is_existing all true there = there
        is_existing all false missing =
            let none : length x.file.text ≡ 0 = ap length (law.missing_text missing) in
            absurd (omega (arith, none, all, g.within, lines_within_text x.file law))

        at_last : n ≡ 2 ^ 64 → CollectsLabel x xs ys width wider
        at_last all =
            let past : line_count x.file ≤ n = omega (arith, all, lines_have_indices x.file law)
            in
            collected-context past
            (too_large _ ((past_last_line (is_existing all x.file.exists refl)).1 past))

    -- a line whose lookups fail
    pub collected-failed : {e : Error} → HasEnds x → IsLookedUp x n
        → line_failure_unless_past_end x.file (x.failure x.file_id) (last_line x.file x.label) n
        ≡ Some e → lines_failure x ≡ Some e
    collected-failed {e} there looked_up known =
        ⊎_elim before_end (λ (h : line_count x.file ≤ n). at_end (omega (arith, g.within)))
        (cases_lt n (line_count x.file))
      where
        by_line : (ends : Bool)
            → (if ends then None else or_failure (x.failure x.file_id (LineRange n))
            (x.failure x.file_id (LineNumber n))) ≡ Some e
            → failed x (line_lookups n) ≡ Some e
        by_line true h = cc
        by_line false h = ap (or_failure _) (or_failure-none _) ∙ h

        before_end : n < line_count x.file → lines_failure x ≡ Some e
        before_end h =
            let apart = first_error-lookups x.failure x.file_id in
            g.failure
            ∙ rw (line_first x n h, append_assoc, apart, looked_up)
            (or_failure-some (failed x (line_lookups n)) _ e
            (by_line _ (rw (lt-ltb n (line_count x.file) h) at known)))

        -- the range alone, where the line is past the last one
        by_range : (ends : Bool)
            → (if ends then None else or_failure (x.failure x.file_id (LineRange n)) None)
            ≡ Some e
            → failed x (if not ends then LineRange n ∷ [] else []) ≡ Some e
        by_range true h = h
        by_range false h = h

        at_end : n ≡ line_count x.file → lines_failure x ≡ Some e
        at_end here =
            let reach = le-leb n (last_line x.file x.label + x.config.after_label_lines)
            (near_after _ _ _ _ n (omega (arith, here, there.first))
            (omega (arith, here, there.last)) looked_up) in
            let after = lt-ltb (last_line x.file x.label) n (omega (arith, here, there.last)) in
            let outside = le-ltb n (line_count x.file) (omega (arith, here)) in
            let none : line_count x.file - n ≡ 0 = omega (arith, here) in
            g.failure
            ∙ rw (none, sym here, reach) (by_range _ (rw (after, outside) at known))
