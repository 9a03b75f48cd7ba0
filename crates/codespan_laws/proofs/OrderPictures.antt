-- For `reordering_changes_nothing`: a reordering of labels that keeps the orders that a rich output
-- shows changes nothing in it.
use Rattle.std.proofs.Common.{◌≡◌, ℕ, ◌+◌, ◌-◌, max, Bool, true, ◌&&◌, ◌||◌}
use Rattle.std.proofs.Common.{nat_lt, List, [], ◌∷◌, ◌++◌, map, filter, fold, flat_map}
use Rattle.std.proofs.Common.{length, None, refl, sym, ap, ap₂, ◌∙◌, false}
use Rattle.std.specs.Cmp.{IsEquivalence, first_so, second_so}
use Rattle.std.specs.Cmp.Lexicographic.{pointwise}
use Rattle.std.specs.List.{range_with_len, enumerate_from, filter_map}
use Rattle.codespan_base.specs.declared.diagnostic.Severity.{Severity}
use Rattle.codespan_base.specs.declared.term.config.Config.{Config}
use Rattle.codespan_base.specs.declared.term.config.DisplayStyle.TheVariants.{Rich}
use Rattle.codespan_base.specs.declared.term.config.Layout.{Layout}
use Rattle.codespan_base.specs.declared.term.config.Layout.TheVariants.{Classic, Unbroken}
use Rattle.codespan_base.specs.FileModel.{FileModel, line_count, line_text}
use Rattle.codespan_base.specs.Labels.{LabelModel, first_line, last_line, first_seen}
use Rattle.codespan_base.specs.Labels.{multi_label_on, lane_mark_of}
use Rattle.codespan_output.specs.CharMetrics.{text_without_line_end}
use Rattle.codespan_output.specs.LineLaws.{shown_lines}
use Rattle.codespan_output.specs.Lines.{shows, is_shown, drawn_lines, spans}
use Rattle.codespan_output.specs.Padding.{numbered_lines}
use Rattle.codespan_output.specs.OutputStreams.{context_of, fitted_stream, rendered}
use Rattle.codespan_output.specs.Rows.{Locus, HeaderText, Lanes, Line, HeaderRow, SnippetStartRow}
use Rattle.codespan_output.specs.Rows.{EmptyRow, FinalRow}
use Rattle.codespan_output.specs.Snippets.{LabeledFileModel, LabelInFile, labeled_file_model}
use Rattle.codespan_output.specs.Snippets.{empty_lanes, line_at, rows_of_drawn, rows_of_shown}
use Rattle.codespan_output.specs.Snippets.{labeled_file_models, snippet, empty_row_after, snippets}
use Rattle.codespan_output.specs.Snippets.{note_rows}
use mathlib.Core.Path.{fun_ext}
use Rattle.codespan_laws.specs.OrderLaws.{ReorderingChangesNothing}
use Rattle.codespan_output.proofs.DrawnLines.Filled.{rows_of_shown_lines}
use Rattle.codespan_laws.proofs.OrderMembers.{AreEqual, SameTests, same-tests, locus-same}
use Rattle.codespan_laws.proofs.OrderMembers.{singles-same}
use Rattle.codespan_output.specs.Private.LineRows.{has_any}
use Rattle.codespan_output.specs.Private.LocusBytes.{snippet_locus_byte, digits_of, spanned_lines}

-- ---- one file

-- two files with labels render the same
record HaveSameRows (view_config : Config) (s t : LabeledFileModel) : Type 0 where
  rows : (locus : Locus) → snippet view_config locus s ≡ snippet view_config locus t
  bare : empty_lanes s ≡ empty_lanes t
  digits : digits_of s (numbered_lines view_config s) ≡ digits_of t (numbered_lines view_config t)

module _ (f : FileModel) (xs ys : List LabelModel) (equal : AreEqual f xs ys) where
  abbrev s : LabeledFileModel
  s = record { file = f; labels = xs }

  abbrev t : LabeledFileModel
  t = record { file = f; labels = ys }

  tests : SameTests xs ys
  tests = same-tests f xs ys equal

  -- the multi-line label marks of a line depend on the multi-line labels alone
  lanes-same : (l : ℕ) → (line_at s l).lanes ≡ (line_at t l).lanes
  lanes-same l = ap {B = Lanes} (λ zs. record {
    count =
        length zs;
    lane_marks =
        filter_map
        (λ (entry : ℕ × LabelModel). lane_mark_of entry.0 entry.1 (multi_label_on f l entry.1))
        (enumerate_from 0 zs);
  })
      equal.multi_line

  bare-same : empty_lanes s ≡ empty_lanes t
  bare-same =
      ap {B = Lanes} (λ (zs : List LabelModel). record { count = length zs; lane_marks = [] })
      equal.multi_line

  line-same : (l : ℕ) → line_at s l ≡ line_at t l
  line-same l =
      ap₂ {C = Line}
      (λ zs lanes.
      record {
        number =
            f.line_number l;
        text = text_without_line_end (line_text f l);
        labels = zs;
        lanes = lanes;
      })
      (singles-same f xs ys equal l) (lanes-same l)

  -- which lines are shown depends on tests of the labels
  shown-same : (view_config : Config) (l : ℕ)
      → is_shown view_config f xs l ≡ is_shown view_config f ys l
  shown-same view_config l =
      ap (λ b. nat_lt l (line_count f) && b)
      (tests (λ x. shows view_config (first_line f x) (last_line f x) l))

  shown_lines-same : (view_config : Config)
      → shown_lines view_config s ≡ shown_lines view_config t
  shown_lines-same view_config =
      ap (λ (shown : ℕ → Bool). filter shown (range_with_len 0 (line_count f)))
      (fun_ext (shown-same view_config))

  drawn-same : (view_config : Config)
      → drawn_lines view_config f xs ≡ drawn_lines view_config f ys
  drawn-same view_config =
      ap (λ (shown : ℕ → Bool). filter
      (λ l. shown l || (nat_lt 0 l && shown (l - 1) && shown (l + 1)))
      (range_with_len 0 (line_count f))) (fun_ext (shown-same view_config))

  start-same : snippet_locus_byte s ≡ snippet_locus_byte t
  start-same = ap {B = FileModel × ℕ} (λ n. (f, n)) (locus-same xs ys tests)

  -- the rows follow from the shown lines
  after-same : (view_config : Config)
      → rows_of_drawn s None (drawn_lines view_config f xs) ≡ rows_of_drawn t None
      (drawn_lines view_config f ys)
  after-same view_config =
      rows_of_shown_lines view_config s
      ∙ ap₂ (λ line ls. rows_of_shown line None ls) (fun_ext line-same)
      (shown_lines-same view_config)
      ∙ sym (rows_of_shown_lines view_config t)

  snippet-same : (view_config : Config) (locus : Locus)
      → snippet view_config locus s ≡ snippet view_config locus t
  snippet-same view_config locus =
      ap₂ (λ a b. a ++ b)
      (ap (λ lanes. SnippetStartRow locus ∷ EmptyRow lanes ∷ []) bare-same)
      (after-same view_config)

  spanned-same : spanned_lines s ≡ spanned_lines t
  spanned-same =
      ap (λ (spanned : ℕ → Bool). filter spanned (range_with_len 0 (line_count f)))
      (fun_ext (λ (l : ℕ). tests (λ x. spans (first_line f x) (last_line f x) l)))

  numbered-same : (view_config : Config)
      → numbered_lines view_config s ≡ numbered_lines view_config t
  numbered-same view_config = by_layout view_config.layout
    where
      by_layout : (layout : Layout)
          → numbered_lines (record view_config { layout = layout }) s ≡ numbered_lines
          (record view_config { layout = layout }) t
      by_layout Classic = spanned-same
      by_layout Unbroken = drawn-same view_config

  have_same_rows-same : (view_config : Config) → HaveSameRows view_config s t
  have_same_rows-same view_config =
      record {
        rows =
            snippet-same view_config;
        bare =
            bare-same;
        digits = ap (digits_of s) (numbered-same view_config);
      }

-- ---- all files

module _ {Id : Type 0} (view_config : Config) (g h : Id → LabeledFileModel)
    (have_same_rows : (id : Id) → HaveSameRows view_config (g id) (h id)) where
  -- a snippet and the row after it
  followed-same : (followed : Bool) (p : Locus) (id : Id)
      → snippet view_config p (g id) ++ empty_row_after followed (g id) ≡ snippet view_config p
      (h id) ++ empty_row_after followed (h id)
  followed-same true p id =
      ap₂ (λ rows lanes. rows ++ (EmptyRow lanes ∷ [])) ((have_same_rows id).rows p)
      (have_same_rows id).bare
  followed-same false p id = ap (λ rows. rows ++ []) ((have_same_rows id).rows p)

  is_followed-same : (b : Bool) (ids : List Id)
      → (has_any (map g ids) || b) ≡ (has_any (map h ids) || b)
  is_followed-same b [] = refl
  is_followed-same b (i ∷ ids) = refl

  snippets-same : (has_notes : Bool) (ps : List Locus) (ids : List Id)
      → snippets view_config has_notes ps (map g ids) ≡ snippets view_config has_notes ps
      (map h ids)
  snippets-same has_notes [] ids = refl
  snippets-same has_notes (p ∷ ps) [] = refl
  snippets-same has_notes (p ∷ ps) (i ∷ ids) =
      ap₂ (λ a b. a ++ b)
      (followed-same (has_any (map g ids) || has_notes) p i
      ∙ ap (λ b. snippet view_config p (h i) ++ empty_row_after b (h i))
      (is_followed-same has_notes ids))
      (snippets-same has_notes ps ids)

  digits-same : (ids : List Id)
      → flat_map (λ (s : LabeledFileModel). digits_of s (numbered_lines view_config s))
      (map g ids)
      ≡ flat_map (λ (s : LabeledFileModel). digits_of s (numbered_lines view_config s))
      (map h ids)
  digits-same [] = refl
  digits-same (i ∷ ids) = ap₂ (λ a b. a ++ b) (have_same_rows i).digits (digits-same ids)

  rich-same : (renderer_config : Config) (severity : Severity) (header_text : HeaderText)
      (ps : List Locus) (notes : List (List ℕ)) (ids : List Id)
      → rendered Rich renderer_config view_config severity header_text ps (map g ids)
      notes ≡ rendered Rich renderer_config view_config severity header_text ps (map h ids) notes
  rich-same renderer_config severity header_text ps notes ids =
      ap₂ (λ padding rows. fitted_stream renderer_config.max_width
      (context_of renderer_config severity padding)
      ((HeaderRow None header_text ∷ rows) ++ note_rows notes ++ (FinalRow ∷ [])))
      (ap (fold max 0) (digits-same ids)) (snippets-same (has_any notes) ps ids)

-- ---- equal ids

module _ {Id : Type 0} (same : Id → Id → Bool) (file : Id → FileModel)
    (o : IsEquivalence same)
    (one_file : (i j : Id) → same i j ≡ true → file i ≡ file j) (xs : List (LabelInFile Id))
  where
    -- equal ids have one file with one list of labels
    file-equal : (i j : Id) → same i j ≡ true
        → labeled_file_model same file xs i ≡ labeled_file_model same file xs j
    file-equal i j t = ap₂ {C = LabeledFileModel} (λ f (named : LabelInFile Id → Bool).
        record { file = f; labels = map (λ (x : LabelInFile Id). x.label) (filter named xs) })
        (one_file i j t) (fun_ext (λ (x : LabelInFile Id). o.congr i j x.file_id t))

    -- ids that are equal one by one have the same files
    files-equal : (is js : List Id) → pointwise same is js ≡ true
        → map (labeled_file_model same file xs) is ≡ map (labeled_file_model same file xs) js
    files-equal [] [] h = refl
    files-equal [] (j ∷ js) h = cc
    files-equal (i ∷ is) [] h = cc
    files-equal (i ∷ is) (j ∷ js) h =
        ap₂ (λ s ss. s ∷ ss) (file-equal i j (first_so (same i j) (pointwise same is js) h))
        (files-equal is js (second_so (same i j) (pointwise same is js) h))

-- a reordering that keeps these orders changes nothing in a rich output, where equal ids have one
-- file
pub reordering_changes_nothing : {Id : Type 0} (same : Id → Id → Bool) (file : Id → FileModel)
    → ReorderingChangesNothing same file
reordering_changes_nothing {Id} same file xs ys o one_file orders = record {
  same_locus_bytes = starts-same ids ∙ ap (map snippet_locus_byte) others;
  same_stream = λ renderer_config view_config severity header_text loci notes.
      rich-same view_config (labeled_file_model same file xs) (labeled_file_model same file ys)
      (have_same_rows view_config) renderer_config severity header_text loci notes ids
      ∙ ap (λ ss. rendered Rich renderer_config view_config severity header_text loci ss notes)
      others;
}
  where
    ids : List Id
    ids = first_seen same (map (λ (x : LabelInFile Id). x.file_id) xs)

    others : map (labeled_file_model same file ys) ids ≡ labeled_file_models same file ys
    others = files-equal same file o one_file ys _ _ orders.files

    equal : (id : Id)
        → AreEqual (file id) (labeled_file_model same file xs id).labels
        (labeled_file_model same file ys id).labels
    equal id = record { multi_line = orders.multi_line id; single_line = orders.single_line id }

    have_same_rows : (view_config : Config) (id : Id)
        → HaveSameRows view_config (labeled_file_model same file xs id)
        (labeled_file_model same file ys id)
    have_same_rows view_config id =
        have_same_rows-same (file id) (labeled_file_model same file xs id).labels
        (labeled_file_model same file ys id).labels (equal id) view_config

    starts-same : (ids : List Id)
        → map snippet_locus_byte (map (labeled_file_model same file xs) ids) ≡ map
        snippet_locus_byte (map (labeled_file_model same file ys) ids)
    starts-same [] = refl
    starts-same (i ∷ ids) =
        ap₂ (λ a b. a ∷ b)
        (start-same (file i) (labeled_file_model same file xs i).labels
        (labeled_file_model same file ys i).labels (equal i))
        (starts-same ids)
