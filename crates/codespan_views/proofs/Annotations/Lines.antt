-- The annotations of all labels on one line of one file, for the clauses of `render_snippets` and
-- `RichDiagnostic::render`.
use Rattle.codespan_core.proofs.Std.{common_steps, rules, ◌≡◌, ℕ, ◌+◌, ◌<◌, Bool}
use Rattle.codespan_core.proofs.Std.{true, false, cond, if◌then◌else◌, ◌==◌, nat_lt}
use Rattle.codespan_core.proofs.Std.{◌&&◌, ◌||◌, List, [], ◌∷◌, ◌++◌, length, map}
use Rattle.codespan_core.proofs.Std.{filter, Option, None, ⊎_elim, refl, sym, ◌∙◌, ap}
use Rattle.codespan_core.proofs.Std.{arith, length-append, option_map, list_any, AllByRecursion}
use Rattle.codespan_core.proofs.Std.{cases_Bool, eqb-true, eq-eqb, ltb-false, nat_tests}
use Rattle.codespan_core.proofs.Std.{filter-append, list_any-append, subst}
use Rattle.std.proofs.Math.Bool.{and-false}
use Rattle.codespan_core.specs.FileModel.{FileModel, line_count}
use Rattle.codespan_core.specs.Labels.{LaneMark, LabelModel, first_line, last_line, is_single}
use Rattle.codespan_core.specs.Labels.{drawn_label, lane_mark_of, multi_line_labels, multi_label_on}
use Rattle.codespan_core.specs.Lemmas.Lines.{line_of_below}
use Rattle.codespan_output.specs.Types.{Config}
use Rattle.codespan_output.specs.Lines.{shows}
use Rattle.codespan_output.specs.Snippets.{LabelInFile}
use Rattle.codespan_views.specs.Private.{Annotation, Single, Multi, is_before, is_on_line}
use Rattle.codespan_views.specs.Private.{is_of_file, annotation_if_any, shows_line}
use Rattle.codespan_views.specs.Private.{line_annotations, index_of_file, annotations_of_next}
use Rattle.codespan_views.specs.Private.{annotations_after, num_multi_labels_of, single_labels_in}
use Rattle.codespan_views.proofs.Annotations.Order.{lane_mark_annotation, index_below}
use Rattle.codespan_views.proofs.Labels.TheirLines.{is_kind}
use Rattle.codespan_views.proofs.Annotations.OfLabel.{all-of_file, all-below, annotations-on_line}
use Rattle.codespan_views.proofs.Annotations.OfLabel.{lane_marks-on_line, single_labels-on_line}
use Rattle.codespan_views.proofs.Annotations.OfLabel.{shown-on_line}
use Rattle.codespan_views.proofs.Labels.Indexing.{num_multi_labels_of-more}
use Rattle.codespan_views.proofs.Annotations.LaneMarks.{marks_from}
use Rattle.codespan_output.proofs.Order.OrderSorts.{has_range}
use Rattle.codespan_output.proofs.Utf8.ListElements.{all-both, all-append, all-weaker, filter-whole}
use Rattle.codespan_output.proofs.Utf8.ListElements.{filter-nothing}
use Rattle.codespan_output.proofs.Order.SortedFilters.{Falls}
use Rattle.codespan_views.proofs.Labels.OfFile.{is_of_range, HasFileIndex}

module _ {Id : Type 0} {same : Id → Id → Bool} {file : Id → FileModel} {ids : List Id}
    {f : ℕ}
    {id : Id} (here : HasFileIndex same file ids f id) (config : Config) where
  -- the file
  abbrev own_file : FileModel
  own_file = file id

  -- the labels that are of the file
  abbrev own : List (LabelInFile Id) → List (LabelInFile Id)
  own xs = filter (λ (x : LabelInFile Id). same id x.file_id) xs

  -- they, without their ids
  abbrev pub labels_in : List (LabelInFile Id) → List LabelModel
  labels_in xs = map (λ (x : LabelInFile Id). x.label) (own xs)

  -- ---- lines of the file

  -- a label is on lines that the file has
  ends-below : (x : LabelModel) → (first_line own_file x < line_count own_file)
      × (last_line own_file x < line_count own_file)
  ends-below x = (
    line_of_below own_file.starts x.start here.has_line,
    line_of_below own_file.starts x.end here.has_line,
  )

  -- its annotations of the file are of such lines
  pub annotations-below : (xs before : List (LabelInFile Id))
      → AllByRecursion (λ e. is_of_file f e ≡ true → e.line < line_count own_file)
      (annotations_after same file config ids before xs)
  annotations-below [] before = tt
  annotations-below (x ∷ xs) before =
      let es = annotations_of_next same file config ids before x in
      all-append (λ e. is_of_file f e ≡ true → e.line < line_count own_file) es
      (annotations_after same file config ids (before ++ x ∷ []) xs)
      (all-weaker (λ e. (e.line < line_count (file x.file_id))
      × (e.file_index ≡ index_of_file same ids x.file_id))
      (λ e. is_of_file f e ≡ true → e.line < line_count own_file)
      (λ e h k. subst (λ m. e.line < line_count m) (here.one_file x.file_id
      (sym (here.index x.file_id) ∙ ap (λ i. i == f) (sym h.1) ∙ k)) h.0) es
      (search (rules, all-both, all-below, all-of_file)))
      (annotations-below xs (before ++ x ∷ []))

  module _ (l : ℕ) where
    -- the lane of a label of the file after these
    abbrev lane_after : List (LabelInFile Id) → ℕ
    lane_after before = num_multi_labels_of same file before id

    -- its annotations on the line
    abbrev own_annotations : List (LabelInFile Id) → LabelModel → List Annotation
    own_annotations before x = line_annotations config own_file f (length before)
        (lane_after before) x l

    -- the annotations of a label on the line
    abbrev line_annotations_of : List (LabelInFile Id) → LabelInFile Id → List Annotation
    line_annotations_of before x = cond (same id x.file_id && nat_lt l (line_count own_file))
        (own_annotations before x.label) []

    -- the annotations of labels after these on the line
    abbrev pub line_annotations_after : List (LabelInFile Id) → List (LabelInFile Id)
        → List Annotation
    line_annotations_after before [] = []
    line_annotations_after before (x ∷ xs) = line_annotations_of before x
        ++ line_annotations_after
        (before ++ x ∷ []) xs

    -- a label's annotations of the line of the file
    one-line_annotations : (before : List (LabelInFile Id)) (x : LabelInFile Id)
        → filter (is_on_line l)
        (filter (is_of_file f) (annotations_of_next same file config ids before x))
        ≡ line_annotations_of before x
    one-line_annotations before x =
        ⊎_elim
        (λ (t : same id x.file_id ≡ true).
        let at : index_of_file same ids x.file_id
        ≡ f = eqb-true (index_of_file same ids x.file_id)
        f (here.index x.file_id ∙ t) in
        rw (filter-whole (is_of_file f) es (all-weaker _ (λ e. is_of_file f e ≡ true)
        (λ e h. eq-eqb e.file_index f (h ∙ at)) es of))
        (rw (here.lanes before x.file_id t, here.one_file x.file_id t, at, t)
        (annotations-on_line config own_file f (length before) (lane_after before) x.label l)))
        (λ (t : same id x.file_id ≡ false).
        rw (
          t,
          filter-nothing (is_of_file f) es (all-weaker _ (λ e. is_of_file f e ≡ false)
              (λ e h. ap (λ i. i == f) h ∙ here.index x.file_id ∙ t) es of),
        ) refl)
        (cases_Bool (same id x.file_id))
      where
        es : List Annotation
        es = annotations_of_next same file config ids before x

        of : AllByRecursion (λ e. e.file_index ≡ index_of_file same ids x.file_id) es
        of = search (rules, all-of_file)

    -- all annotations of the line of the file
    pub all-line_annotations : (xs before : List (LabelInFile Id))
        → filter (is_on_line l)
        (filter (is_of_file f) (annotations_after same file config ids before xs))
        ≡ line_annotations_after before xs
    all-line_annotations [] before = refl
    all-line_annotations (x ∷ xs) before = grind
        (arith, common_steps, filter-append, one-line_annotations, all-line_annotations xs)

    -- ---- labels inside the line

    -- the label is inside the line
    abbrev on : LabelModel → Bool
    on x = is_single own_file x && (first_line own_file x == l)

    -- no label is on a line past the last
    on-outside : (x : LabelModel) → nat_lt l (line_count own_file) ≡ false → on x ≡ false
    on-outside x h = grind (arith, common_steps, ends-below, ltb-false, nat_tests, and-false)

    -- the annotation of a label at this index
    abbrev single_label_at : ℕ → LabelModel → Annotation
    single_label_at k x = record {
      file_index = f;
      line = l;
      kind = Single k (drawn_label own_file x);
    }

    -- the annotations of the labels inside the line, where their indices begin here
    abbrev pub single_labels_from : ℕ → List (LabelInFile Id) → List Annotation
    single_labels_from k [] = []
    single_labels_from k (x ∷ xs) = cond (same id x.file_id && on x.label)
        (single_label_at k x.label ∷ []) [] ++ single_labels_from (k + 1) xs

    -- the annotation of one of them
    one-single : (before : List (LabelInFile Id)) (x : LabelInFile Id)
        → filter (is_kind 1) (line_annotations_of before x)
        ≡ cond (same id x.file_id && on x.label)
        (single_label_at (length before) x.label ∷ []) []
    one-single before x = grind (arith, common_steps, nat_lt, single_labels-on_line, on-outside)

    -- the annotations of all of them
    pub all-single_labels : (xs before : List (LabelInFile Id)) (k : ℕ) → length before ≡ k
        → filter (is_kind 1) (line_annotations_after before xs) ≡ single_labels_from k xs
    all-single_labels [] before k e = refl
    all-single_labels (x ∷ xs) before k e = grind (
      arith,
      common_steps,
      length-append,
      filter-append,
      one-single,
      all-single_labels xs,
      nat_tests,
    )

    -- the labels of those annotations
    pub single_labels-labels : (k : ℕ) (xs : List (LabelInFile Id))
        → single_labels_in (single_labels_from k xs) ≡ map (drawn_label own_file)
        (filter on (labels_in xs))
    single_labels-labels k [] = refl
    single_labels-labels k (x ∷ xs) = grind
        (arith, common_steps, single_labels-labels (k + 1) xs, nat_tests)

    -- of the labels of one range the later ones come first
    single_labels-below : (start end k j : ℕ) (a : LabelModel) → k < j
        → has_range start end (drawn_label own_file a) ≡ true → (xs : List (LabelInFile Id))
        → AllByRecursion (λ e. is_before e (single_label_at k a) ≡ true)
        (filter (is_of_range start end) (single_labels_from j xs))
    single_labels-below start end k j a h t [] = tt
    single_labels-below start end k j a h t (x ∷ xs) =
        let rest = single_labels-below start end k (j + 1) a (omega arith) t xs in
        grind (arith, common_steps, nat_tests, index_below, rest)

    -- the annotations of the labels of one range are in descending order
    pub single_labels-fall : (start end k : ℕ) (xs : List (LabelInFile Id))
        → Falls is_before (filter (is_of_range start end) (single_labels_from k xs))
    single_labels-fall start end k [] = tt
    single_labels-fall start end k (x ∷ xs) =
        let rest = single_labels-fall start end (k + 1) xs in
        let below = λ (u : has_range start end (drawn_label own_file x.label) ≡ true).
        single_labels-below start end k (k + 1) x.label (omega arith) u xs in
        grind (arith, common_steps, nat_tests, below, rest)

    -- ---- lane marks

    -- the label has no lane mark on a line past the last
    multi_label-outside : (x : LabelModel) → nat_lt l (line_count own_file) ≡ false
        → multi_label_on own_file l x ≡ None
    multi_label-outside x h = grind (arith, common_steps, ends-below, ltb-false, nat_tests, nat_lt)

    -- the lane mark of a label in a lane, where it has one
    abbrev multi_annotations_if : Bool → Option LaneMark → List Annotation
    multi_annotations_if a o = annotation_if_any f l (cond a None (option_map Multi o))

    -- the lane mark of a label that comes after these
    one-lane_mark : (before : List (LabelInFile Id)) (x : LabelInFile Id)
        → filter (is_kind 2) (line_annotations_of before x) ≡ cond (same id x.file_id)
        (multi_annotations_if (is_single own_file x.label)
        (lane_mark_of (num_multi_labels_of same file before id) x.label
        (multi_label_on own_file l x.label))) []
    one-lane_mark before x = grind
        (arith, common_steps, nat_lt, lane_marks-on_line, multi_label-outside)

    -- the lane marks of labels that come after these, in their lanes
    pub all-lane_marks : (xs before : List (LabelInFile Id))
        → filter (is_kind 2) (line_annotations_after before xs) ≡ map (lane_mark_annotation f l)
        (marks_from own_file l (lane_after before) (multi_line_labels own_file (labels_in xs)))
    all-lane_marks [] before = refl
    all-lane_marks (x ∷ xs) before =
        rw (
          filter-append (is_kind 2) (line_annotations_of before x)
              (line_annotations_after (before ++ x ∷ []) xs),
          one-lane_mark before x,
          all-lane_marks xs (before ++ x ∷ []),
          num_multi_labels_of-more same file before x id,
        )
        (by_tests (lane_after before) (same id x.file_id) (is_single own_file x.label) refl)
      where
        later : ℕ → List Annotation
        later k = map (lane_mark_annotation f l)
            (marks_from own_file l k (multi_line_labels own_file (labels_in xs)))

        by_tests : (n : ℕ) (s t : Bool) → is_single own_file x.label ≡ t
            → cond s (multi_annotations_if t
            (lane_mark_of n x.label (multi_label_on own_file l x.label))) []
            ++ later (n + (if s then (if t then 0 else 1) else 0))
            ≡ map (lane_mark_annotation f l)
            (marks_from own_file l n (multi_line_labels own_file
            (map (λ (y : LabelInFile Id). y.label) (cond s (x ∷ own xs) (own xs)))))
        by_tests n s t h = grind (arith, common_steps)

    -- ---- lines that are shown

    -- an annotation shows the lines that the file has and that some label shows
    pub any-line_annotations : (xs before : List (LabelInFile Id))
        → list_any shows_line (line_annotations_after before xs)
        ≡ (nat_lt l (line_count own_file) && list_any
        (λ x. shows config (first_line own_file x) (last_line own_file x) l) (labels_in xs))
    any-line_annotations [] before = sym (and-false (nat_lt l (line_count own_file)))
    any-line_annotations (x ∷ xs) before =
        list_any-append shows_line (line_annotations_of before x)
        (line_annotations_after (before ++ x ∷ []) xs)
        ∙ ap (λ b. list_any shows_line (line_annotations_of before x) || b)
        (any-line_annotations xs (before ++ x ∷ []))
        ∙ by_tests (same id x.file_id) (nat_lt l (line_count own_file))
      where
        shows_it : LabelModel → Bool
        shows_it y = shows config (first_line own_file y) (last_line own_file y) l

        by_tests : (s t : Bool)
            → (list_any shows_line (cond (s && t) (own_annotations before x.label) [])
            || (t && list_any shows_it (labels_in xs)))
            ≡ (t && list_any shows_it (map (λ (y : LabelInFile Id). y.label)
            (cond s (x ∷ own xs) (own xs))))
        by_tests false t = refl
        by_tests true false = refl
        by_tests true true = grind (arith, common_steps, shows_it, shown-on_line, nat_tests)
