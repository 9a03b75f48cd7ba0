-- The annotations of one label on one line, for the clause `collected` of `collect`.
use Rattle.codespan_core.proofs.Std.{common_steps, rules, ◌≡◌, ℕ, ◌<◌, Bool, false}
use Rattle.codespan_core.proofs.Std.{cond, ◌==◌, nat_lt, ◌&&◌, List, [], ◌∷◌, filter}
use Rattle.codespan_core.proofs.Std.{None, refl, ◌∙◌, ap, arith, option_map, list_any}
use Rattle.codespan_core.proofs.Std.{AllByRecursion, append-nil, filter-append, list_any-append}
use Rattle.codespan_core.proofs.Std.{nat_tests, Option, Some, true, ◌++◌}
use Rattle.std.proofs.Math.Bool.{and-false}
use Rattle.codespan_core.specs.FileModel.{FileModel, line_count}
use Rattle.codespan_core.specs.Labels.{LabelModel, first_line, last_line, is_single, drawn_label}
use Rattle.codespan_core.specs.Labels.{LaneMark, lane_mark_of, multi_label_on}
use Rattle.codespan_output.specs.Types.{Config}
use Rattle.codespan_output.specs.Lines.{shows}
use Rattle.codespan_output.specs.Lookups.{is_looked_up}
use Rattle.codespan_views.specs.Private.{Annotation, AnnotationKind, Single, Multi, is_on_line}
use Rattle.codespan_views.specs.Private.{annotation_if_any, shows_line, line_annotations}
use Rattle.codespan_views.specs.Private.{annotations_of, Shown}
use Rattle.codespan_output.proofs.Utf8.ListElements.{all-append}
use Rattle.codespan_views.proofs.Labels.TheirLines.{is_kind, among-below, all-range, on-line}
use Rattle.codespan_views.proofs.Labels.TheirLines.{not_shown, no_multi_label, own_shown}

-- ---- the annotations of a label

module _ (config : Config) (f : FileModel) (file_index index lane : ℕ) (x : LabelModel) where
  -- an annotation of its file
  abbrev annotation_on : ℕ → AnnotationKind → Annotation
  annotation_on l kind = record { file_index = file_index; line = l; kind = kind }

  -- its carets on a line
  abbrev carets : ℕ → Annotation
  carets l = annotation_on l (Single index (drawn_label f x))

  -- its multi-line label mark on a line
  abbrev pub multi_annotations_on : ℕ → List Annotation
  multi_annotations_on l =
      annotation_if_any file_index l
      (cond (is_single f x) None (option_map Multi (lane_mark_of lane x (multi_label_on f l x))))

  -- what holds of each annotation that it can have on a line
  each-line_annotations : (P : Annotation → Type 0) (l : ℕ)
      → ((s : AnnotationKind) → P (annotation_on l s))
      → AllByRecursion P (line_annotations config f file_index index lane x l)
  each-line_annotations P l h = search (rules, all-append)

  -- its annotations are of its file
  pub all-of_file : AllByRecursion (λ e. e.file_index ≡ file_index)
      (annotations_of config f file_index index lane x)
  all-of_file = search (rules, all-range, each-line_annotations)

  -- they are of lines that the file has
  pub all-below : AllByRecursion (λ e. e.line < line_count f)
      (annotations_of config f file_index index lane x)
  all-below =
      all-range (λ e. e.line < line_count f) (line_annotations config f file_index index lane x)
      (is_looked_up config f x) (line_count f) 0
      (λ l k. each-line_annotations (λ e. e.line < line_count f) l (λ s. omega arith))

  -- it has no annotation on a line that is not looked up for it
  not_looked_up : (l : ℕ) → is_looked_up config f x l ≡ false
      → line_annotations config f file_index index lane x l ≡ []
  not_looked_up l h = grind (arith, common_steps, not_shown, no_multi_label, and-false, nat_tests)

  -- on a line that the file has these are its annotations
  pub annotations-on_line : (l : ℕ)
      → filter (is_on_line l) (annotations_of config f file_index index lane x)
      ≡ cond (nat_lt l (line_count f))
      (line_annotations config f file_index index lane x l) []
  annotations-on_line l =
      let es = line_annotations config f file_index index lane x l in
      on-line (line_annotations config f file_index index lane x)
      (λ k. each-line_annotations (λ e. e.line ≡ k) k (λ s. refl)) (is_looked_up config f x) l
      (line_count f) 0
      ∙ ap (λ b. cond (b && is_looked_up config f x l) es []) (among-below (line_count f) l)
      ∙ by (nat_lt l (line_count f)) (is_looked_up config f x l) es (not_looked_up l)
    where
      by : (b c : Bool) (es : List Annotation) → (c ≡ false → es ≡ [])
          → cond (b && c) es [] ≡ cond b es []
      by b c es none = grind (arith, common_steps)

  -- ---- the kinds of its annotations of a line

  -- those of a label inside the line
  pub single_labels-on_line : (l : ℕ)
      → filter (is_kind 1) (line_annotations config f file_index index lane x l) ≡ cond
      (is_single f x && (first_line f x == l)) (carets l ∷ []) []
  single_labels-on_line l = grind (arith, common_steps, filter-append, append-nil)

  -- its multi-line label mark
  pub lane_marks-on_line : (l : ℕ)
      → filter (is_kind 2) (line_annotations config f file_index index lane x l)
      ≡ multi_annotations_on l
  lane_marks-on_line l = grind (arith, common_steps, filter-append)

  -- its annotations make the lines shown that it shows: a label inside a line shows that line
  pub shown-on_line : (l : ℕ)
      → list_any shows_line (line_annotations config f file_index index lane x l)
      ≡ shows config (first_line f x)
      (last_line f x) l
  shown-on_line l =
      by_kind (is_single f x) (first_line f x == l)
      (shows config (first_line f x) (last_line f x) l) _
      (own_shown config (first_line f x) (last_line f x) l)
    where
      by_kind : (single own shown : Bool) (m : Option LaneMark)
          → (own ≡ true → shown ≡ true)
          → list_any shows_line
          (annotation_if_any file_index l
          (cond (single && own) (Some (Single index (drawn_label f x)))
          (cond shown (Some Shown) None))
          ++ annotation_if_any file_index l (option_map Multi m))
          ≡ shown
      by_kind single own shown m h = grind (arith, common_steps, list_any-append)
