-- For `messages_appear_once`: the rows of a line, and the labels of one, with their slots filled.
use Rattle.codespan_core.proofs.Std.{◌≡◌, ℕ, suc, ◌+◌, ◌-◌, Bool, true, false, not}
use Rattle.codespan_core.proofs.Std.{◌&&◌, ◌==◌, nat_lt, List, [], ◌∷◌, ◌++◌, map}
use Rattle.codespan_core.proofs.Std.{filter, reverse, flat_map, filter_map, length, Option, Some}
use Rattle.codespan_core.proofs.Std.{None, option_map, refl, sym, ap, ap₂, ◌∙◌}
use Rattle.codespan_core.proofs.Std.{enumerate_from, cons_option, reverse-append}
use Rattle.codespan_core.proofs.Std.{if◌then◌else◌}
use Rattle.codespan_core.specs.FileModel.{FileModel, line_start}
use Rattle.codespan_core.specs.Streams.{Stream}
use Rattle.codespan_core.specs.Labels.{LabelModel, is_empty, LaneMark, MultiLabel, Top, Left}
use Rattle.codespan_core.specs.Labels.{Bottom, first_line, last_line, is_single, drawn_label}
use Rattle.codespan_core.specs.Labels.{multi_line_labels, range_precedes, insert_sorted, sorted}
use Rattle.codespan_core.specs.Labels.{single_labels, multi_label_on, lane_mark_of, lane_marks_on}
use Rattle.codespan_output.specs.{leading_whitespace, Line, SourceRow, PointerRow, HangingRow}
use Rattle.codespan_output.specs.{UnderlineRow, hanging_labels, has_underline, rows_of}
use Rattle.codespan_output.specs.{LabeledFileModel, LabelInFile, empty_lanes, line_at}
use Rattle.codespan_output.specs.Rows.{Lanes}
use mathlib.Core.Path.{fun_ext}
use Rattle.codespan_output.proofs.Slots.RefilledLabels.{filter-map, map-append', refilled}
use Rattle.codespan_output.proofs.Slots.RefilledLabels.{refilled_multi_label, refilled_lane_mark}
use Rattle.codespan_output.proofs.Slots.RefilledLabels.{refilled_lanes, refilled_line}
use Rattle.codespan_output.proofs.Slots.RefilledLanes.{hanging_labels-refilled}
use Rattle.codespan_output.proofs.Slots.RefilledRows.{refilled_row}
use Rattle.codespan_output.specs.Private.{caret_rows, pointer_and_hanging_rows, underline_rows}
use Rattle.codespan_output.specs.Private.{num_multi_labels}
use Rattle.codespan_output.proofs.Utf8.ListElements.{map-map}

pub map-ext : {X Y : Type 0} (f g : X → Y) → ((x : X) → f x ≡ g x) → (xs : List X)
    → map f xs ≡ map g xs
map-ext f g h [] = refl
map-ext f g h (x ∷ xs) = ap₂ (λ y ys. y ∷ ys) (h x) (map-ext f g h xs)

pub reverse-map : {X Y : Type 0} (f : X → Y) (xs : List X)
    → reverse (map f xs) ≡ map f (reverse xs)
reverse-map f [] = refl
reverse-map f (x ∷ xs) =
    reverse-append (f x ∷ []) (map f xs) ∙ ap (λ ys. ys ++ (f x ∷ [])) (reverse-map f xs)
    ∙ sym (map-append' f (reverse xs) (x ∷ []))
    ∙ ap (map f) (sym (reverse-append (x ∷ []) xs))

same-length : {X Y : Type 0} (f : X → Y) (xs : List X) → length (map f xs) ≡ length xs
same-length f [] = refl
same-length f (x ∷ xs) = ap suc (same-length f xs)

pub flat-map-map : {X Y Z : Type 0} (g : Y → List Z) (f : X → Y) (xs : List X)
    → flat_map g (map f xs)
    ≡ flat_map (λ x. g (f x)) xs
flat-map-map g f [] = refl
flat-map-map g f (x ∷ xs) = ap (λ ys. g (f x) ++ ys) (flat-map-map g f xs)

abbrev pub refilled_file : (Stream → Stream) → LabeledFileModel → LabeledFileModel
refilled_file φ s = record s { labels = map (refilled φ) s.labels }

abbrev pub refilled_in : {Id : Type 0} → (Stream → Stream) → LabelInFile Id → LabelInFile Id
refilled_in φ x = record x { label = refilled φ x.label }

module _ (φ : Stream → Stream)
    (keeps : (s : Stream) → is_empty (φ s) ≡ is_empty s)
  where
    -- ---- a line

    caret-rows : (line : Line) (labels : List LabelModel)
        → map (refilled_row φ) (caret_rows line labels) ≡ caret_rows (refilled_line φ line)
        (map (refilled φ) labels)
    caret-rows line [] = refl
    caret-rows line (x ∷ xs) = refl

    hanging_labels-rows : (line : Line) (labels : List LabelModel)
        → map (refilled_row φ) (pointer_and_hanging_rows line labels)
        ≡ pointer_and_hanging_rows
        (refilled_line φ line)
        (map (refilled φ) labels)
    hanging_labels-rows line [] = refl
    hanging_labels-rows line (x ∷ xs) =
        ap (λ rows. PointerRow (refilled_line φ line) ∷ rows)
        (map-map (refilled_row φ) (HangingRow line) (reverse (x ∷ xs))
        ∙ sym (map-map (HangingRow (refilled_line φ line)) (refilled φ) (reverse (x ∷ xs)))
        ∙ ap (map (HangingRow (refilled_line φ line)))
        (sym (reverse-map (refilled φ) (x ∷ xs))))

    has-underline : (leading : ℕ) (multi_label : MultiLabel)
        → has_underline leading (refilled_multi_label φ multi_label)
        ≡ has_underline leading multi_label
    has-underline leading (Top start) = refl
    has-underline leading Left = refl
    has-underline leading (Bottom end message) = refl

    underline-rows : (line : Line) → map (refilled_row φ) (underline_rows line)
        ≡ underline_rows (refilled_line φ line)
    underline-rows line =
        let p = λ (m : LaneMark). has_underline (leading_whitespace line.text) m.multi_label in
        map-map (refilled_row φ) (UnderlineRow line) (filter p line.lanes.lane_marks)
        ∙ sym (map-map (UnderlineRow (refilled_line φ line)) (refilled_lane_mark φ)
        (filter p line.lanes.lane_marks))
        ∙ ap (λ q. map (UnderlineRow (refilled_line φ line))
        (map (refilled_lane_mark φ) (filter q line.lanes.lane_marks)))
        (fun_ext (λ (m : LaneMark). sym
        (has-underline (leading_whitespace line.text) m.multi_label)))
        ∙ ap (map (UnderlineRow (refilled_line φ line)))
        (sym (filter-map p (refilled_lane_mark φ) line.lanes.lane_marks))

    pub line-rows : (line : Line)
        → map (refilled_row φ) (rows_of line) ≡ rows_of (refilled_line φ line)
    line-rows line =
        map-append' (refilled_row φ) ((SourceRow line ∷ caret_rows line line.labels)
        ++ pointer_and_hanging_rows line (hanging_labels line.labels)) (underline_rows line)
        ∙ ap₂ (λ a b. a ++ b)
        (map-append' (refilled_row φ) (SourceRow line ∷ caret_rows line line.labels)
        (pointer_and_hanging_rows line (hanging_labels line.labels))
        ∙ ap₂ (λ a b. (SourceRow (refilled_line φ line) ∷ a) ++ b)
        (caret-rows line line.labels)
        (hanging_labels-rows line (hanging_labels line.labels)
        ∙ ap (pointer_and_hanging_rows (refilled_line φ line))
        (sym (hanging_labels-refilled φ keeps line.labels))))
        (underline-rows line)

    -- ---- the labels of a line

    put-in : (x : LabelModel) (ys : List LabelModel)
        → insert_sorted (refilled φ x) (map (refilled φ) ys)
        ≡ map (refilled φ) (insert_sorted x ys)
    put-in x [] = refl
    put-in x (y ∷ ys) = by_test (put-in x ys) (range_precedes y x)
      where
        by_test : insert_sorted (refilled φ x) (map (refilled φ) ys)
            ≡ map (refilled φ) (insert_sorted x ys) → (b : Bool)
            → (if b then refilled φ y ∷ insert_sorted (refilled φ x) (map (refilled φ) ys)
            else
            refilled φ x ∷ refilled φ y ∷ map
            (refilled φ) ys)
            ≡ map
            (refilled φ) (if b then y ∷ insert_sorted x ys else x ∷ y ∷ ys)
        by_test rest true = ap (λ zs. refilled φ y ∷ zs) rest
        by_test rest false = refl

    sorted-refilled : (xs : List LabelModel) → sorted (map (refilled φ) xs)
        ≡ map (refilled φ) (sorted xs)
    sorted-refilled [] = refl
    sorted-refilled (x ∷ xs) = ap (insert_sorted (refilled φ x)) (sorted-refilled xs)
        ∙ put-in x (sorted xs)

    single-refilled : (f : FileModel) (xs : List LabelModel) (l : ℕ)
        → single_labels f (map (refilled φ) xs) l ≡ map (refilled φ) (single_labels f xs l)
    single-refilled f xs l =
        let p = λ (x : LabelModel). is_single f x && (first_line f x == l) in
        ap (λ ys. sorted (reverse (map (drawn_label f) ys))) (filter-map p (refilled φ) xs)
        ∙ ap (λ ys. sorted (reverse ys)) (map-map (drawn_label f) (refilled φ) (filter p xs)
        ∙ sym (map-map (refilled φ) (drawn_label f) (filter p xs)))
        ∙ ap sorted (reverse-map (refilled φ) (map (drawn_label f) (filter p xs)))
        ∙ sorted-refilled (reverse (map (drawn_label f) (filter p xs)))

    multi-refilled : (f : FileModel) (xs : List LabelModel)
        → multi_line_labels f (map (refilled φ) xs)
        ≡ map (refilled φ) (multi_line_labels f xs)
    multi-refilled f xs = filter-map (λ x. not (is_single f x)) (refilled φ) xs

    multi_label-on : (f : FileModel) (l : ℕ) (x : LabelModel)
        → multi_label_on f l (refilled φ x)
        ≡ option_map (refilled_multi_label φ) (multi_label_on f l x)
    multi_label-on f l x = by_tests (first_line f x == l) (last_line f x == l)
        (nat_lt (first_line f x) l && nat_lt l (last_line f x))
      where
        by_tests : (a b c : Bool)
            → (if a then Some (Top (x.start - line_start f l)) else if b then Some
            (Bottom (x.end - line_start f l) (φ x.message)) else if c then Some Left else None)
            ≡ option_map (refilled_multi_label φ)
            (if a then Some (Top (x.start - line_start f l)) else if b then Some
            (Bottom (x.end - line_start f l) x.message) else if c then Some Left else None)
        by_tests true b c = refl
        by_tests false true c = refl
        by_tests false false true = refl
        by_tests false false false = refl

    cons-lane_mark : (n : ℕ) (x : LabelModel) (multi_label : Option MultiLabel)
        (ms : List LaneMark)
        → cons_option (lane_mark_of n (refilled φ x)
        (option_map (refilled_multi_label φ) multi_label))
        (map (refilled_lane_mark φ) ms)
        ≡ map (refilled_lane_mark φ) (cons_option (lane_mark_of n x multi_label) ms)
    cons-lane_mark n x None ms = refl
    cons-lane_mark n x (Some multi_label) ms = refl

    lane_marks-from : (f : FileModel) (l n : ℕ) (xs : List LabelModel)
        → filter_map (λ (entry : ℕ × LabelModel). lane_mark_of entry.0 entry.1
        (multi_label_on f l entry.1)) (enumerate_from n (map (refilled φ) xs))
        ≡ map (refilled_lane_mark φ) (filter_map
        (λ (entry : ℕ × LabelModel). lane_mark_of entry.0 entry.1 (multi_label_on f l entry.1))
        (enumerate_from n xs))
    lane_marks-from f l n [] = refl
    lane_marks-from f l n (x ∷ xs) =
        ap₂ (λ multi_label ms. cons_option (lane_mark_of n (refilled φ x) multi_label) ms)
        (multi_label-on f l x) (lane_marks-from f l (n + 1) xs)
        ∙ cons-lane_mark n x (multi_label_on f l x)
        (filter_map (λ (entry : ℕ × LabelModel). lane_mark_of entry.0 entry.1
        (multi_label_on f l entry.1)) (enumerate_from (n + 1) xs))

    lane_marks-refilled : (f : FileModel) (xs : List LabelModel) (l : ℕ)
        → lane_marks_on f (map (refilled φ) xs) l ≡ map (refilled_lane_mark φ)
        (lane_marks_on f xs l)
    lane_marks-refilled f xs l =
        ap (λ ys. filter_map (λ (entry : ℕ × LabelModel). lane_mark_of entry.0 entry.1
        (multi_label_on f l entry.1)) (enumerate_from 0 ys)) (multi-refilled f xs)
        ∙ lane_marks-from f l 0 (multi_line_labels f xs)

    lanes-count : (s : LabeledFileModel)
        → num_multi_labels (refilled_file φ s) ≡ num_multi_labels s
    lanes-count s = ap length (multi-refilled s.file s.labels) ∙ same-length (refilled φ)
        (multi_line_labels s.file s.labels)

    pub bare-refilled : (s : LabeledFileModel) → refilled_lanes φ (empty_lanes s)
        ≡ empty_lanes (refilled_file φ s)
    bare-refilled s = ap {B = Lanes} (λ n. record { count = n; lane_marks = [] })
        (sym (lanes-count s))

    pub lanes-at : (s : LabeledFileModel) (l : ℕ) → refilled_lanes φ (line_at s l).lanes
        ≡ (line_at (refilled_file φ s) l).lanes
    lanes-at s l = ap₂ {C = Lanes} (λ n ms. record { count = n; lane_marks = ms })
        (sym (lanes-count s)) (sym (lane_marks-refilled s.file s.labels l))

    pub line-refilled : (s : LabeledFileModel) (l : ℕ) → refilled_line φ (line_at s l)
        ≡ line_at (refilled_file φ s) l
    line-refilled s l =
        ap₂ {C = Line}
        (λ xs lanes. record {
          number = (line_at s l).number;
          text = (line_at s l).text;
          labels = xs;
          lanes = lanes;
        })
        (sym (single-refilled s.file s.labels l)) (lanes-at s l)
