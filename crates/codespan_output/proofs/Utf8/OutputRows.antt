-- For `outputs_are_utf8`: the rows of a line and of a file are texts.
use Rattle.codespan_core.proofs.Std.{◌≡◌, ℕ, ◌+◌, ◌-◌, Bool, true, false, not}
use Rattle.codespan_core.proofs.Std.{◌&&◌, ◌==◌, List, [], ◌∷◌, ◌++◌, map, filter}
use Rattle.codespan_core.proofs.Std.{reverse, Option, Some, None, refl, sym, subst, ◌||◌}
use Rattle.codespan_core.proofs.Std.{IfSome, nat_lt, AllByRecursion, cons_option, enumerate_from}
use Rattle.codespan_core.proofs.Std.{filter_map, IsUtf8, cond_both, if◌then◌else◌}
use Rattle.codespan_core.specs.FileModel.{FileModel, line_text, line_start}
use Rattle.codespan_core.specs.LawfulFiles.{IsLawful}
use Rattle.codespan_core.specs.Labels.{LabelModel, LaneMark, Top, Left, Bottom, drawn_label}
use Rattle.codespan_core.specs.Labels.{has_message, is_single, lane_mark_of, multi_line_labels}
use Rattle.codespan_core.specs.Labels.{multi_label_on, insert_sorted, single_labels, sorted}
use Rattle.codespan_core.specs.Labels.{range_precedes, first_line, last_line}
use Rattle.codespan_output.specs.Types.{Config}
use Rattle.codespan_output.specs.{drawn_lines, NamesAreUtf8, Line, Locus, EmptyRow, SourceRow}
use Rattle.codespan_output.specs.{HangingRow, UnderlineRow, hanging_labels, has_underline, rows_of}
use Rattle.codespan_output.specs.{leading_whitespace, max_label_end, break_between}
use Rattle.codespan_output.specs.{LabeledFileModel, empty_lanes, line_at, empty_row_after}
use Rattle.codespan_output.specs.{rows_of_drawn, snippet, snippets, StreamIsUtf8}
use Rattle.codespan_output.proofs.Utf8.Sequences.{all-break, all-sequence}
use Rattle.codespan_output.proofs.Lanes.LineLemmas.{each_map}
use Rattle.codespan_output.proofs.Messages.Pass.{Around, others, around_trails, around_rightmost}
use Rattle.codespan_output.proofs.Messages.Pass.{hanging_of, around_is}
use Rattle.codespan_output.proofs.Messages.Rightmost.{hanging_is}
use Rattle.codespan_output.proofs.Utf8.Lanes.{LineIsUtf8, MultiLabelIsUtf8, RowIsUtf8}
use Rattle.codespan_output.proofs.Utf8.ListElements.{all-append, all-filter}
use Rattle.codespan_output.proofs.Order.SortedFilters.{all-reverse}
use Rattle.codespan_output.proofs.Utf8.DrawnLines.{drawn-utf8, line-utf8}
use Rattle.codespan_output.specs.Private.{caret_rows, pointer_and_hanging_rows, underline_rows}
use Rattle.codespan_output.specs.Private.{break_rows, line_rows, has_any}

-- ---- the labels of a line

-- the message of a label is a text
abbrev pub HasTextMessage : LabelModel → Type 0
HasTextMessage x = StreamIsUtf8 x.message

text_message-put : (x : LabelModel) (ys : List LabelModel) → HasTextMessage x
    → AllByRecursion HasTextMessage ys → AllByRecursion HasTextMessage (insert_sorted x ys)
text_message-put x [] t h = (t, tt)
text_message-put x (y ∷ ys) t h =
    cond_both (range_precedes y x) (y ∷ insert_sorted x ys) (x ∷ y ∷ ys)
    (AllByRecursion HasTextMessage) (λ _. (h.0, text_message-put x ys t h.1)) (λ _. (t, h))

text_message-sorted : (xs : List LabelModel) → AllByRecursion HasTextMessage xs
    → AllByRecursion HasTextMessage (sorted xs)
text_message-sorted [] h = tt
text_message-sorted (x ∷ xs) h = text_message-put x (sorted xs) h.0 (text_message-sorted xs h.1)

module _ (f : FileModel) (labels : List LabelModel) (texts : AllByRecursion HasTextMessage labels)
  where
    text_message-single : (l : ℕ) → AllByRecursion HasTextMessage (single_labels f labels l)
    text_message-single l =
        let own : List LabelModel = filter (λ x. is_single f x && (first_line f x == l)) labels in
        text_message-sorted (reverse (map (drawn_label f) own))
        (all-reverse HasTextMessage (map (drawn_label f) own)
        (each_map HasTextMessage (drawn_label f) own
        (all-filter HasTextMessage (λ x. is_single f x && (first_line f x == l)) labels texts)))

    -- the message of a multi-line label mark is that of its label
    text_message-multi_label : (l : ℕ) (x : LabelModel) (lane : ℕ) → HasTextMessage x
        → IfSome (lane_mark_of lane x (multi_label_on f l x))
        (λ m. MultiLabelIsUtf8 m.multi_label)
    text_message-multi_label l x lane t =
        by (first_line f x == l) (last_line f x == l)
        (nat_lt (first_line f x) l && nat_lt l (last_line f x))
      where
        by : (a b c : Bool)
            → IfSome
            (lane_mark_of lane x
            (if a then Some (Top (x.start - line_start f l))
            else if b then Some (Bottom (x.end - line_start f l) x.message)
            else if c then Some Left
            else None))
            (λ m. MultiLabelIsUtf8 m.multi_label)
        by true b c = tt
        by false true c = t
        by false false true = tt
        by false false false = tt

    text_message-lane_marks : (l k : ℕ) (xs : List LabelModel)
        → AllByRecursion HasTextMessage xs
        → AllByRecursion (λ (m : LaneMark). MultiLabelIsUtf8 m.multi_label)
        (filter_map
        (λ (entry : ℕ × LabelModel). lane_mark_of entry.0 entry.1 (multi_label_on f l entry.1))
        (enumerate_from k xs))
    text_message-lane_marks l k [] h = tt
    text_message-lane_marks l k (x ∷ xs) h =
        by (lane_mark_of k x (multi_label_on f l x)) (text_message-multi_label l x k h.0)
        (text_message-lane_marks l (k + 1) xs h.1)
      where
        by : (o : Option LaneMark) → IfSome o (λ m. MultiLabelIsUtf8 m.multi_label)
            → AllByRecursion (λ (m : LaneMark). MultiLabelIsUtf8 m.multi_label)
            (filter_map
            (λ (entry : ℕ × LabelModel). lane_mark_of entry.0 entry.1
            (multi_label_on f l entry.1))
            (enumerate_from (k + 1) xs))
            → AllByRecursion (λ (m : LaneMark). MultiLabelIsUtf8 m.multi_label)
            (cons_option o
            (filter_map
            (λ (entry : ℕ × LabelModel). lane_mark_of entry.0 entry.1
            (multi_label_on f l entry.1))
            (enumerate_from (k + 1) xs)))
        by None t rest = rest
        by (Some m) t rest = (t, rest)

-- ---- the rows of a line

text_message-hanging_labels : (labels : List LabelModel) → AllByRecursion HasTextMessage labels
    → AllByRecursion HasTextMessage (hanging_labels labels)
text_message-hanging_labels [] h = tt
text_message-hanging_labels (x ∷ xs) h =
    subst (AllByRecursion HasTextMessage) (sym (hanging_is (x ∷ xs)))
    (by (around_rightmost (x ∷ xs)) refl)
  where
    around : (before : List LabelModel) (y : LabelModel) (after : List LabelModel)
        → AllByRecursion HasTextMessage (before ++ (y ∷ after))
        → AllByRecursion HasTextMessage (before ++ after)
    around [] y after k = k.1
    around (z ∷ before) y after k = (k.0, around before y after k.1)

    by : (r : Option Around) → around_rightmost (x ∷ xs) ≡ r
        → AllByRecursion HasTextMessage (hanging_of (x ∷ xs) r)
    by None is = tt
    by (Some a) is =
        cond_both (around_trails a) (others a) (x ∷ xs)
        (λ ys. AllByRecursion HasTextMessage (filter has_message ys))
        (λ _. all-filter HasTextMessage has_message (others a)
        (around a.before a.here a.after
        (subst (AllByRecursion HasTextMessage)
        (sym (around_is (max_label_end (x ∷ xs)) (x ∷ xs) a is)) h)))
        (λ _. all-filter HasTextMessage has_message (x ∷ xs) h)

rows-hanging_labels : (line : Line) (labels : List LabelModel)
    → AllByRecursion HasTextMessage labels
    → AllByRecursion RowIsUtf8 (pointer_and_hanging_rows line labels)
rows-hanging_labels line [] h = tt
rows-hanging_labels line (x ∷ xs) h = (
  tt,
  each_map RowIsUtf8 (HangingRow line) (reverse (x ∷ xs))
      (all-reverse HasTextMessage (x ∷ xs) h),
)

rows-caret : (line : Line) (labels : List LabelModel) → AllByRecursion HasTextMessage line.labels
    → AllByRecursion RowIsUtf8 (caret_rows line labels)
rows-caret line [] h = tt
rows-caret line (x ∷ xs) h = (h, tt)

rows-line : (line : Line) → LineIsUtf8 line → AllByRecursion RowIsUtf8 (rows_of line)
rows-line line t =
    let test : LaneMark → Bool = λ m. has_underline (leading_whitespace line.text) m.multi_label
    in
    all-append RowIsUtf8
    ((SourceRow line ∷ caret_rows line line.labels)
    ++ pointer_and_hanging_rows line (hanging_labels line.labels))
    (underline_rows line)
    (all-append RowIsUtf8 (SourceRow line ∷ caret_rows line line.labels)
    (pointer_and_hanging_rows line (hanging_labels line.labels))
    (t.text, rows-caret line line.labels t.labels)
    (rows-hanging_labels line (hanging_labels line.labels)
    (text_message-hanging_labels line.labels t.labels)))
    (each_map RowIsUtf8 (UnderlineRow line) (filter test line.lanes.lane_marks)
    (all-filter (λ (m : LaneMark). MultiLabelIsUtf8 m.multi_label) test line.lanes.lane_marks
    t.lane_marks))

-- ---- the rows of a file

-- a lawful file with labels whose messages are texts
pub record FileIsUtf8 (s : LabeledFileModel) : Type 0 where
  pub lawful : IsLawful s.file
  pub labels : AllByRecursion HasTextMessage s.labels

module _ (s : LabeledFileModel) (ok : FileIsUtf8 s) where
  line-text : (l : ℕ) → LineIsUtf8 (line_at s l)
  line-text l = record {
    text = drawn-utf8 (line_text s.file l) (line-utf8 s.file ok.lawful l);
    labels = text_message-single s.file s.labels ok.labels l;
    lane_marks =
        text_message-lane_marks s.file s.labels ok.labels l 0 (multi_line_labels s.file s.labels)
        (all-filter HasTextMessage (λ x. not (is_single s.file x)) s.labels ok.labels);
  }

  rows-lines : (previous : Option ℕ) (ls : List ℕ)
      → AllByRecursion RowIsUtf8 (rows_of_drawn s previous ls)
  rows-lines previous ls =
      all-sequence RowIsUtf8 (λ l. l) (break_between (break_rows (line_at s)))
      (line_rows (line_at s))
      (all-break RowIsUtf8 (break_rows (line_at s)) (λ d. (tt, tt)))
      (λ l. rows-line (line_at s l) (line-text l)) previous ls

  rows-snippet_and_after : (config : Config) (followed : Bool) (at : Locus) → IsUtf8 at.name
      → AllByRecursion RowIsUtf8 (snippet config at s ++ empty_row_after followed s)
  rows-snippet_and_after config followed at u =
      all-append RowIsUtf8 (snippet config at s) (empty_row_after followed s)
      (u, (tt, rows-lines None (drawn_lines config s.file s.labels)))
      (cond_both followed (EmptyRow (empty_lanes s) ∷ []) [] (AllByRecursion RowIsUtf8)
      (λ _. (tt, tt)) (λ _. tt))

pub rows-snippets : (config : Config) (has_notes : Bool) (loci : List Locus)
    (ss : List LabeledFileModel)
    → NamesAreUtf8 loci → AllByRecursion FileIsUtf8 ss
    → AllByRecursion RowIsUtf8 (snippets config has_notes loci ss)
rows-snippets config has_notes [] ss named ok = tt
rows-snippets config has_notes (p ∷ ps) [] named ok = tt
rows-snippets config has_notes (p ∷ ps) (s ∷ ss) named ok =
    all-append RowIsUtf8 (snippet config p s ++ empty_row_after (has_any ss || has_notes) s)
    (snippets config has_notes ps ss)
    (rows-snippet_and_after s ok.0 config (has_any ss || has_notes) p named.0)
    (rows-snippets config has_notes ps ss named.1 ok.1)
