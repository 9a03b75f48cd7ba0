-- From all annotations of a diagnostic in order `lines_of` makes, for each file, the rows of its
-- snippet: for the clauses of `render_snippets` and `RichDiagnostic::render`.
use Rattle.codespan_core.proofs.Std.{common_steps, rules, arith, ◌≡◌, ℕ, ◌<◌, Bool}
use Rattle.codespan_core.proofs.Std.{true, ◌==◌, ◌&&◌, List, [], map, filter, reverse, None}
use Rattle.codespan_core.proofs.Std.{refl, sym, ◌∙◌, ap, list_any, range_with_len}
use Rattle.codespan_core.proofs.Std.{AllByRecursion, eqb-true, recursion_from_All}
use Rattle.codespan_core.proofs.Std.{All-from_recursion, All-permutation}
use Rattle.std.proofs.lemmas.List.Sorted.{list_any-IsPermutation}
use Rattle.codespan_core.specs.FileModel.{FileDatabase, FileModel, line_count}
use Rattle.codespan_core.specs.Labels.{LaneMark, LabelModel, is_single, first_line, drawn_label}
use Rattle.codespan_core.specs.Labels.{lane_marks_on, single_labels, sorted}
use Rattle.codespan_output.specs.Types.{Config}
use Rattle.codespan_output.specs.Arguments.{starts_in_order}
use Rattle.codespan_output.specs.Lines.{drawn_lines}
use Rattle.codespan_output.specs.Lookups.{filled_lines}
use Rattle.codespan_output.specs.Sequences.{break_between, in_sequence}
use Rattle.codespan_output.specs.Snippets.{LabelInFile, LabeledFileModel, labeled_file_model}
use Rattle.codespan_output.specs.Snippets.{line_at, rows_of_drawn, file_ids}
use Rattle.codespan_views.specs.Private.{Collected, Annotation, is_before, is_on_line, is_of_file}
use Rattle.codespan_views.specs.Private.{shows_line, annotation_view, IsCollected, IsIdAt}
use Rattle.codespan_views.specs.Private.{all_annotations, lane_marks_in, lines_of, single_labels_in}
use Rattle.codespan_views.specs.Private.{line_of_group, rows_of_lines, filled_lines_of}
use Rattle.codespan_views.specs.Private.{drawn_lines_of, are_lane_marks_in_order, is_line_in_order}
use Rattle.codespan_views.specs.Private.{IsLineFittable}
use Rattle.codespan_views.proofs.Annotations.Groups.{are_shown, lines_after, snippet_lines-by_line}
use Rattle.codespan_views.proofs.Annotations.Groups.{all-on_line}
use Rattle.codespan_views.proofs.Labels.OfFile.{HasFileIndex, is_of_range}
use Rattle.codespan_views.proofs.Annotations.Order.{below_order, lane_mark_annotation}
use Rattle.codespan_views.proofs.Annotations.SingleLabelOrder.{IsOn, single_labels-ascend}
use Rattle.codespan_views.proofs.Annotations.SingleLabelOrder.{ascends-starts}
use Rattle.codespan_views.proofs.Files.Indices.{index_of_file-at}
use Rattle.codespan_views.proofs.Annotations.LaneMarks.{ascend-climbs, lane_marks-ascend}
use Rattle.codespan_output.proofs.DrawnLines.Filled.{none_past}
use Rattle.codespan_views.proofs.Labels.TheirLines.{is_kind}
use Rattle.codespan_views.proofs.Labels.Indexing.{AreFiles, num_multi_labels_of-equal}
use Rattle.codespan_output.proofs.Order.OrderSorts.{has_range, ascending-same, sorted-ascends}
use Rattle.codespan_output.proofs.Order.OrderSorts.{sorted-keeps}
use Rattle.codespan_output.proofs.Utf8.ListElements.{all-weaker, all-filter, all-both, all-pass}
use Rattle.codespan_output.proofs.Utf8.ListElements.{filter-filter, any-filtered}
use Rattle.codespan_output.proofs.Order.SortedLists.{Rises, rises-filter, rises-from_sorted}
use Rattle.codespan_output.proofs.Order.SortedFilters.{Falls, filter-reverse, filter-sorted_climbs}
use Rattle.codespan_output.proofs.Order.SortedFilters.{filter-sorted_falls}
use Rattle.codespan_views.proofs.Lines.SnippetLineRows.{snippet_lines-rows, snippet_lines-fit}
use Rattle.codespan_views.proofs.Lines.SnippetLineRows.{snippet_lines-fittable}
use Rattle.codespan_output.proofs.Fitting.DrawnLines.{line_at-fittable}
use Rattle.codespan_views.proofs.Lines.SnippetLineRows.{snippet_lines-lines, snippet_lines-fills}
use Rattle.codespan_views.proofs.Annotations.OfGroup.{single_labels-of_range, range-rank}
use Rattle.codespan_views.proofs.Annotations.OfGroup.{lane_marks-rank, lane_marks-of_annotations}
use Rattle.codespan_views.proofs.Annotations.OfGroup.{single_labels-reverse, first-shows}
use Rattle.codespan_views.proofs.Annotations.OfGroup.{lines-rise}
use Rattle.codespan_output.specs.Private.LineRows.{line_rows, break_rows, num_multi_labels}
use Rattle.codespan_output.specs.Lines as lines
use Rattle.codespan_views.proofs.Annotations.Lines as annotation_lines

-- ---- the annotations of a file

module _ {Id : Type 0} {database : FileDatabase Id} (lawful : AreFiles database)
    {config : Config} {xs : List (LabelInFile Id)} {collected : Collected Id}
    (known : IsCollected database config xs collected)
    (f : ℕ) (id : Id) (at : IsIdAt (file_ids database.same xs) f id) where
  -- the file that an id names
  abbrev file : Id → FileModel
  file = database.file

  -- the annotations in the order of the labels
  abbrev all : List Annotation
  all = all_annotations database.same file config xs

  -- the annotations in order
  abbrev annotations : List Annotation
  annotations = map annotation_view collected.annotations.items

  -- the file with its labels
  abbrev s : LabeledFileModel
  s = labeled_file_model database.same file xs id

  -- its annotations in order
  abbrev own : List Annotation
  own = filter (is_of_file f) annotations

  -- those of a line
  abbrev own_on_line : ℕ → List Annotation
  own_on_line l = filter (is_on_line l) own

  -- the file has this index among those of the labels
  here : HasFileIndex database.same file (file_ids database.same xs) f id
  here = grind (arith, common_steps, index_of_file-at, num_multi_labels_of-equal)

  -- its annotations are of the file
  own-file : AllByRecursion (λ e. e.file_index ≡ f) own
  own-file = grind (arith, common_steps, all-weaker, eqb-true, all-pass)

  -- they are in order
  own-rises : Rises is_before own
  own-rises = search (rules, rises-filter, rises-from_sorted, below_order)

  -- they are of lines that the file has
  own-below : AllByRecursion (λ e. e.line < line_count (file id)) own
  own-below =
      let IsInside : (e : Annotation) → Type 0 = λ e. is_of_file f e ≡ true
      → e.line < line_count (file id) in
      let inside : AllByRecursion IsInside annotations = recursion_from_All IsInside annotations
      (All-permutation IsInside all annotations known.permutation
      (All-from_recursion IsInside all (annotation_lines.annotations-below here config xs []))) in
      all-weaker (λ e. (is_of_file f e ≡ true) × IsInside e)
      (λ e. e.line < line_count (file id))
      (λ e h. h.1 h.0) own (search (rules, all-both, all-pass, all-filter, inside))

  -- the annotations of a line are of it
  own_on_line-all : (l : ℕ) → AllByRecursion (IsOn f l) (own_on_line l)
  own_on_line-all l = search (rules, all-both, all-filter, own-file, all-on_line)

  -- they are in order
  own_on_line-rises : (l : ℕ) → Rises is_before (own_on_line l)
  own_on_line-rises l = rises-filter is_before (is_on_line l) own own-rises

  -- an annotation of the file and the line that passes a test
  abbrev picks : ℕ → (Annotation → Bool) → Annotation → Bool
  picks l t e = is_of_file f e && (is_on_line l e && t e)

  -- what passes a test, of any annotations
  of_picked : (l : ℕ) (t : Annotation → Bool) (es : List Annotation)
      → filter t (filter (is_on_line l) (filter (is_of_file f) es)) ≡ filter (picks l t) es
  of_picked l t es = grind (arith, common_steps, filter-filter)

  -- whether any passes
  any-of_picked : (l : ℕ) (t : Annotation → Bool) (es : List Annotation)
      → list_any t (filter (is_on_line l) (filter (is_of_file f) es)) ≡ list_any (picks l t) es
  any-of_picked l t es = grind (arith, common_steps, any-filtered)

  -- the annotations of the labels on a line
  abbrev line_annotations : ℕ → List Annotation
  line_annotations l = annotation_lines.line_annotations_after here config l [] xs

  -- those of a line, in the order of the labels
  line_annotations-are : (l : ℕ)
      → filter (is_on_line l) (filter (is_of_file f) all) ≡ line_annotations l
  line_annotations-are l = annotation_lines.all-line_annotations here config l xs []

  -- ---- the labels of a line

  -- the labels inside the line
  single_labels-are : (l : ℕ)
      → single_labels_in (own_on_line l) ≡ single_labels (file id) s.labels
      l
  single_labels-are l =
      ascending-same (single_labels_in (own_on_line l)) (sorted reversed)
      (single_labels-ascend f l (own_on_line l) (own_on_line-all l) (own_on_line-rises l))
      (sorted-ascends reversed)
      (λ start end. ranges start end ∙ sym (sorted-keeps start end reversed))
    where
      of_line_labels : List LabelModel
      of_line_labels = map (drawn_label (file id))
          (filter (λ x. is_single (file id) x && (first_line (file id) x == l)) s.labels)

      reversed : List LabelModel
      reversed = reverse of_line_labels

      from : List Annotation
      from = annotation_lines.single_labels_from here config l 0 xs

      all_in_range : (start end : ℕ)
          → filter (picks l (is_of_range start end)) all ≡ filter (is_of_range start end) from
      all_in_range start end =
          sym (of_picked l (is_of_range start end) all) ∙ ap (filter (is_of_range start end))
          (line_annotations-are l)
          ∙ sym (range-rank start end (line_annotations l))
          ∙ ap (filter (is_of_range start end))
          (annotation_lines.all-single_labels here config l xs [] 0 refl)

      falls : (start end : ℕ) → Falls is_before (filter (picks l (is_of_range start end)) all)
      falls start end = rw (all_in_range start end)
          (annotation_lines.single_labels-fall here config l start end 0 xs)

      ranges : (start end : ℕ)
          → filter (has_range start end) (single_labels_in (own_on_line l)) ≡ filter
          (has_range start end) reversed
      ranges start end =
          single_labels-of_range start end (own_on_line l)
          ∙ ap single_labels_in (of_picked l (is_of_range start end) annotations
          ∙ filter-sorted_falls is_before below_order all annotations known.permutation
          known.sorted
          (picks l (is_of_range start end)) (falls start end)
          ∙ ap (λ (r : List Annotation). reverse r) (all_in_range start end))
          ∙ single_labels-reverse (filter (is_of_range start end) from)
          ∙ ap (λ (r : List LabelModel). reverse r) (sym (single_labels-of_range start end from)
          ∙ ap (filter (has_range start end))
          (annotation_lines.single_labels-labels here config l 0 xs))
          ∙ sym (filter-reverse (has_range start end) of_line_labels)

  -- ---- the lane marks of a line

  -- those of the labels of the file
  abbrev lane_marks : ℕ → List LaneMark
  lane_marks l = lane_marks_on (file id) s.labels l

  -- their annotations, in the order of the labels
  lane_marks-of_all : (l : ℕ)
      → filter (picks l (is_kind 2)) all ≡ map (lane_mark_annotation f l) (lane_marks l)
  lane_marks-of_all l =
      sym (of_picked l (is_kind 2) all) ∙ ap (filter (is_kind 2)) (line_annotations-are l)
      ∙ annotation_lines.all-lane_marks here config l xs []

  -- the lane marks of the annotations of a line
  lane_marks-are : (l : ℕ) → lane_marks_in (own_on_line l) ≡ lane_marks l
  lane_marks-are l =
      lane_marks-rank (own_on_line l)
      ∙ ap lane_marks_in (of_picked l (is_kind 2) annotations
      ∙ filter-sorted_climbs is_before below_order all annotations known.permutation known.sorted
      (picks l (is_kind 2))
      (rw (lane_marks-of_all l)
      (ascend-climbs f l (num_multi_labels s) 0 (lane_marks l) (lane_marks-ascend s l)))
      ∙ lane_marks-of_all l)
      ∙ lane_marks-of_annotations f l (lane_marks l)

  -- a line is rendered with what its labels do on it
  line-is : (l : ℕ) → line_of_group (file id) (num_multi_labels s) l (own_on_line l)
      ≡ line_at s l
  line-is l = grind (arith, common_steps, single_labels-are, lane_marks-are)

  -- ---- shown lines

  -- the line is shown
  abbrev is_shown : ℕ → Bool
  is_shown l = lines.is_shown config (file id) s.labels l

  -- the annotations of a line determine whether it is shown
  shown-is : (l : ℕ) → are_shown (own_on_line l) ≡ is_shown l
  shown-is l =
      first-shows f l (own_on_line l) (own_on_line-all l) (own_on_line-rises l)
      ∙ any-of_picked l shows_line annotations
      ∙ sym (list_any-IsPermutation (picks l shows_line) all annotations known.permutation)
      ∙ sym (any-of_picked l shows_line all)
      ∙ ap (list_any shows_line) (line_annotations-are l)
      ∙ annotation_lines.any-line_annotations here config l xs []

  -- the shown lines
  abbrev shown : List ℕ
  shown = filter is_shown (range_with_len 0 (line_count (file id)))

  -- the snippet lines are those of the shown lines
  snippet_lines-are : lines_of own ≡ lines_after own_on_line None shown
  snippet_lines-are =
      snippet_lines-by_line (line_count (file id)) own (lines-rise f own own-file own-rises)
      own-below
      ∙ (λ i. lines_after own_on_line None
      (filter (λ l. shown-is l i) (range_with_len 0 (line_count (file id)))))

  -- ---- the snippet

  -- the snippet lines make the rows of the snippet
  pub snippet-rows : rows_of_lines s.file (num_multi_labels s) (lines_of own)
      ≡ rows_of_drawn s None
      (drawn_lines config s.file s.labels)
  snippet-rows =
      ap (rows_of_lines (file id) (num_multi_labels s)) snippet_lines-are
      ∙ snippet_lines-rows (file id) (num_multi_labels s) own_on_line is_shown
      (line_count (file id)) (none_past config s)
      ∙ (λ i. in_sequence (λ l. l) (break_between (break_rows (λ l. line-is l i)))
      (line_rows (λ l. line-is l i)) None (drawn_lines config s.file s.labels))

  -- they fill in the lines that are drawn and not shown
  pub snippet-fills : filled_lines_of (lines_of own) ≡ filled_lines config s
  snippet-fills = grind (arith, common_steps, snippet_lines-are, snippet_lines-fills, none_past)

  -- they render the drawn lines
  pub snippet-lines : drawn_lines_of (lines_of own) ≡ drawn_lines config s.file s.labels
  snippet-lines = grind (arith, common_steps, snippet_lines-are, snippet_lines-lines, none_past)

  -- a line's labels are in the order of their starts
  starts-ascend : (l : ℕ) → starts_in_order (single_labels_in (own_on_line l)) ≡ true
  starts-ascend l = search
      (rules, ascends-starts, single_labels-ascend, own_on_line-all, own_on_line-rises)

  -- its lane marks ascend in the lanes of the file
  lane_marks-fit : (l : ℕ) → are_lane_marks_in_order (num_multi_labels s) (own_on_line l)
      ≡ true
  lane_marks-fit l = rw (lane_marks-are l) (lane_marks-ascend s l)

  -- each snippet line can be fitted to a width
  pub snippet-fittable : AllByRecursion (IsLineFittable s.file (num_multi_labels s)) (lines_of own)
  snippet-fittable =
      rw snippet_lines-are
      (snippet_lines-fittable (file id) (num_multi_labels s) own_on_line
      (λ l. rw (line-is l) (line_at-fittable s (lawful.lawful id) l)) None shown)

  -- so do those of each snippet line
  pub snippet-fits : AllByRecursion
      (λ snippet_line. is_line_in_order (num_multi_labels s) snippet_line ≡ true) (lines_of own)
  snippet-fits =
      rw snippet_lines-are
      (snippet_lines-fit (num_multi_labels s) own_on_line
      (λ l i. starts-ascend l i && lane_marks-fit l i) lane_marks-fit None shown)
