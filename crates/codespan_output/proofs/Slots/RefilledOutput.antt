-- For `messages_appear_once`: the output of the labels with their slots filled.
use Rattle.codespan_core.proofs.Std.{◌≡◌, ℕ, ◌+◌, ◌-◌, max, Bool, true, false}
use Rattle.codespan_core.proofs.Std.{◌&&◌, ◌||◌, nat_lt, List, [], ◌∷◌, ◌++◌, map}
use Rattle.codespan_core.proofs.Std.{filter, fold, flat_map, Option, Some, None, refl, sym, ap}
use Rattle.codespan_core.proofs.Std.{ap₂, ◌∙◌, range_with_len, if◌then◌else◌}
use Rattle.std.specs.Str.Lines.{lines}
use Rattle.codespan_core.specs.FileModel.{FileModel, line_count}
use Rattle.codespan_core.specs.Streams.{Stream}
use Rattle.codespan_core.specs.Labels.{LabelModel, is_empty, first_line, last_line, first_seen}
use Rattle.codespan_output.specs.Types.{Config, Layout, Classic, Unbroken}
use Rattle.codespan_output.specs.{shows, is_shown, drawn_lines, Locus, HeaderText, HeaderRow}
use Rattle.codespan_output.specs.{SnippetStartRow, EmptyRow, BreakRow, FirstNoteRow, LaterNoteRow}
use Rattle.codespan_output.specs.{FinalRow, rows_of, LabeledFileModel, LabelInFile}
use Rattle.codespan_output.specs.{labeled_file_model, labeled_file_models, empty_lanes, line_at}
use Rattle.codespan_output.specs.{rows_of_drawn, snippet, empty_row_after, snippets, note_line_rows}
use Rattle.codespan_output.specs.{note_rows, rich_rows, spans, numbered_lines, padding_of}
use mathlib.Core.Path.{fun_ext}
use Rattle.codespan_output.proofs.DrawnLines.Filled.{breaks_before}
use Rattle.codespan_output.proofs.Slots.RefilledLabels.{any-map, filter-map, map-append', refilled}
use Rattle.codespan_output.proofs.Slots.RefilledRows.{refilled_row}
use Rattle.codespan_output.specs.Private.{has_any, has_break_between, digits_of, spanned_lines}
use Rattle.codespan_output.proofs.Utf8.ListElements.{map-map}
use Rattle.codespan_output.proofs.Slots.RefilledLine.{map-ext, flat-map-map, refilled_file}
use Rattle.codespan_output.proofs.Slots.RefilledLine.{refilled_in, line-rows, bare-refilled}
use Rattle.codespan_output.proofs.Slots.RefilledLine.{lanes-at, line-refilled}

module _ (φ : Stream → Stream)
    (keeps : (s : Stream) → is_empty (φ s) ≡ is_empty s)
  where
    -- ---- a file

    break-refilled : (s : LabeledFileModel) (previous : Option ℕ) (l : ℕ)
        → map (refilled_row φ) (breaks_before s previous l)
        ≡ breaks_before (refilled_file φ s)
        previous l
    break-refilled s None l = refl
    break-refilled s (Some c) l = by_test (has_break_between c l)
      where
        by_test : (b : Bool)
            → map (refilled_row φ)
            (if b then BreakRow (line_at s l).lanes ∷ [] else [])
            ≡ (if b then BreakRow (line_at (refilled_file φ s) l).lanes ∷ [] else [])
        by_test true = ap (λ lanes. BreakRow lanes ∷ []) ((lanes-at φ keeps) s l)
        by_test false = refl

    after-refilled : (s : LabeledFileModel) (previous : Option ℕ) (ls : List ℕ)
        → map (refilled_row φ) (rows_of_drawn s previous ls)
        ≡ rows_of_drawn (refilled_file φ s)
        previous ls
    after-refilled s previous [] = refl
    after-refilled s previous (l ∷ ls) =
        map-append' (refilled_row φ) (breaks_before s previous l ++ rows_of (line_at s l))
        (rows_of_drawn s (Some l) ls)
        ∙ ap₂ (λ a b. a ++ b)
        (map-append' (refilled_row φ) (breaks_before s previous l) (rows_of (line_at s l))
        ∙ ap₂ (λ a b. a ++ b) (break-refilled s previous l)
        ((line-rows φ keeps) (line_at s l) ∙ ap rows_of ((line-refilled φ keeps) s l)))
        (after-refilled s (Some l) ls)

    shown-refilled : (config : Config) (f : FileModel) (xs : List LabelModel) (l : ℕ)
        → is_shown config f (map (refilled φ) xs) l ≡ is_shown config f xs l
    shown-refilled config f xs l = ap (λ b. nat_lt l (line_count f) && b)
        (any-map (λ x. shows config (first_line f x) (last_line f x) l) (refilled φ) xs)

    drawn-refilled : (config : Config) (f : FileModel) (xs : List LabelModel)
        → drawn_lines config f (map (refilled φ) xs) ≡ drawn_lines config f xs
    drawn-refilled config f xs =
        ap (λ (shown : ℕ → Bool). filter
        (λ l. shown l || (nat_lt 0 l && shown (l - 1) && shown (l + 1)))
        (range_with_len 0 (line_count f))) (fun_ext (shown-refilled config f xs))

    snippet-refilled : (config : Config) (locus : Locus) (s : LabeledFileModel)
        → map (refilled_row φ) (snippet config locus s)
        ≡ snippet config locus (refilled_file φ s)
    snippet-refilled config locus s =
        map-append' (refilled_row φ) (SnippetStartRow locus ∷ EmptyRow (empty_lanes s) ∷ [])
        (rows_of_drawn s None (drawn_lines config s.file s.labels))
        ∙ ap₂ (λ a b. a ++ b)
        (ap (λ lanes. SnippetStartRow locus ∷ EmptyRow lanes ∷ [])
        ((bare-refilled φ keeps) s))
        (after-refilled s None (drawn_lines config s.file s.labels)
        ∙ ap (rows_of_drawn (refilled_file φ s) None)
        (sym (drawn-refilled config s.file s.labels)))

    empty_row_after-refilled : (followed : Bool) (s : LabeledFileModel)
        → map (refilled_row φ) (empty_row_after followed s) ≡ empty_row_after followed
        (refilled_file φ s)
    empty_row_after-refilled true s = ap (λ lanes. EmptyRow lanes ∷ [])
        ((bare-refilled φ keeps) s)
    empty_row_after-refilled false s = refl

    -- a snippet and the row after it
    followed-refilled : (config : Config) (followed : Bool) (locus : Locus) (s : LabeledFileModel)
        → map (refilled_row φ) (snippet config locus s ++ empty_row_after followed s)
        ≡ snippet config locus (refilled_file φ s)
        ++ empty_row_after followed (refilled_file φ s)
    followed-refilled config followed locus s =
        map-append' (refilled_row φ) (snippet config locus s) (empty_row_after followed s)
        ∙ ap₂
        (λ a b. a ++ b) (snippet-refilled config locus s) (empty_row_after-refilled followed s)

    is_followed-refilled : (b : Bool) (ss : List LabeledFileModel)
        → (has_any (map (refilled_file φ) ss) || b) ≡ (has_any ss || b)
    is_followed-refilled b [] = refl
    is_followed-refilled b (s ∷ ss) = refl

    snippets-refilled : (config : Config) (has_notes : Bool) (ps : List Locus)
        (ss : List LabeledFileModel)
        → map (refilled_row φ) (snippets config has_notes ps ss) ≡ snippets config has_notes ps
        (map (refilled_file φ) ss)
    snippets-refilled config has_notes [] ss = refl
    snippets-refilled config has_notes (p ∷ ps) [] = refl
    snippets-refilled config has_notes (p ∷ ps) (s ∷ ss) =
        let followed = has_any ss || has_notes in
        map-append' (refilled_row φ) (snippet config p s ++ empty_row_after followed s)
        (snippets config has_notes ps ss)
        ∙ ap₂ (λ a b. a ++ b)
        (followed-refilled config followed p s
        ∙ ap (λ b. snippet config p (refilled_file φ s)
        ++ empty_row_after b (refilled_file φ s))
        (sym (is_followed-refilled has_notes ss)))
        (snippets-refilled config has_notes ps ss)

    note_line-refilled : (ps : List (List ℕ)) → map (refilled_row φ) (note_line_rows ps)
        ≡ note_line_rows ps
    note_line-refilled [] = refl
    note_line-refilled (p ∷ ps) = ap (λ rows. FirstNoteRow p ∷ rows)
        (map-map (refilled_row φ) LaterNoteRow ps)

    notes-refilled : (notes : List (List ℕ)) → map (refilled_row φ) (note_rows notes)
        ≡ note_rows notes
    notes-refilled [] = refl
    notes-refilled (note ∷ notes) =
        map-append' (refilled_row φ) (note_line_rows (lines note)) (note_rows notes) ∙ ap₂
        (λ a b. a ++ b) (note_line-refilled (lines note)) (notes-refilled notes)

    pub rich-refilled : (config : Config) (header_text : HeaderText) (ps : List Locus)
        (ss : List LabeledFileModel) (notes : List (List ℕ))
        → map (refilled_row φ) (rich_rows config header_text ps ss notes)
        ≡ rich_rows config header_text ps (map (refilled_file φ) ss) notes
    rich-refilled config header_text ps ss notes =
        let inner = snippets config (has_any notes) ps ss in
        map-append' (refilled_row φ) ((HeaderRow None header_text ∷ inner) ++ note_rows notes)
        (FinalRow ∷ [])
        ∙ ap (λ rows. rows ++ (FinalRow ∷ []))
        (map-append' (refilled_row φ) (HeaderRow None header_text ∷ inner) (note_rows notes)
        ∙ ap₂ (λ a b. (HeaderRow None header_text ∷ a) ++ b)
        (snippets-refilled config (has_any notes) ps ss) (notes-refilled notes))

    -- ---- the padding

    spanned-refilled : (s : LabeledFileModel)
        → spanned_lines (refilled_file φ s) ≡ spanned_lines s
    spanned-refilled s =
        ap (λ (p : ℕ → Bool). filter p (range_with_len 0 (line_count s.file)))
        (fun_ext (λ (l : ℕ). any-map (λ x. spans (first_line s.file x) (last_line s.file x) l)
        (refilled φ) s.labels))

    numbered-refilled : (config : Config) (s : LabeledFileModel)
        → numbered_lines config (refilled_file φ s) ≡ numbered_lines config s
    numbered-refilled config s = by_layout config.layout
      where
        by_layout : (layout : Layout)
            → numbered_lines (record config { layout = layout }) (refilled_file φ s)
            ≡ numbered_lines
            (record config { layout = layout }) s
        by_layout Classic = spanned-refilled s
        by_layout Unbroken = drawn-refilled config s.file s.labels

    pub padding-refilled : (config : Config) (ss : List LabeledFileModel)
        → padding_of config (map (refilled_file φ) ss) ≡ padding_of config ss
    padding-refilled config ss =
        ap (fold max 0)
        (flat-map-map (λ (s : LabeledFileModel). digits_of s (numbered_lines config s))
        (refilled_file φ) ss
        ∙ ap (λ f. flat_map f ss) (fun_ext
        (λ (s : LabeledFileModel). ap (digits_of s) (numbered-refilled config s))))

    -- ---- the files of labels

    pub files-refilled : {Id : Type 0} (same : Id → Id → Bool) (file : Id → FileModel)
        (xs : List (LabelInFile Id))
        → labeled_file_models same file (map (refilled_in φ) xs)
        ≡ map (refilled_file φ) (labeled_file_models same file xs)
    files-refilled {Id = Id} same file xs =
        ap (λ ids. map (labeled_file_model same file (map (refilled_in φ) xs))
        (first_seen same ids))
        (map-map (λ (x : LabelInFile Id). x.file_id) (refilled_in φ) xs)
        ∙ map-ext (labeled_file_model same file (map (refilled_in φ) xs))
        (λ id. refilled_file φ (labeled_file_model same file xs id)) one ids
        ∙ sym (map-map (refilled_file φ) (labeled_file_model same file xs) ids)
      where
        ids : List Id
        ids = first_seen same (map (λ (x : LabelInFile Id). x.file_id) xs)

        one : (id : Id) → labeled_file_model same file (map (refilled_in φ) xs) id
            ≡ refilled_file φ (labeled_file_model same file xs id)
        one id =
            ap {B = LabeledFileModel} (λ ys. record { file = file id; labels = ys })
            (ap (map (λ (x : LabelInFile Id). x.label))
            (filter-map (λ (x : LabelInFile Id). same id x.file_id) (refilled_in φ) xs)
            ∙ map-map (λ (x : LabelInFile Id). x.label) (refilled_in φ)
            (filter (λ (x : LabelInFile Id). same id x.file_id) xs)
            ∙ sym (map-map (refilled φ) (λ (x : LabelInFile Id). x.label)
            (filter (λ (x : LabelInFile Id). same id x.file_id) xs)))
