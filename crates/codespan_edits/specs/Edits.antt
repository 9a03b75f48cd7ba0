-- The edits of a text, their order, and the text that they make.
use Rattle.std.specs.Prelude.{ℕ, ◌+◌, Bool, if◌then◌else◌, List, [], ◌∷◌}
use Rattle.std.specs.Prelude.{◌++◌, map, drop, slice_range, string_bytes}
use Rattle.std.specs.Ordering.{nat_cmp, ordering_then, is_lt}
use Rattle.std.specs.declared.cmp.Ordering.{Ordering}
use Rattle.codespan_edits.specs.declared.edit.Edit.{Edit}

-- an edit of a text: the bytes from `start` to `end` are replaced
pub record TextEdit : Type 0 where
  pub start : ℕ
  pub end : ℕ
  pub replacement : List ℕ

-- the edit of a text that an edit of a file is
abbrev pub text_edit : {FileId : Type 0} → Edit FileId → TextEdit
text_edit edit = record {
  start = edit.range.start;
  end = edit.range.end;
  replacement = string_bytes edit.replacement;
}

-- the edits of a text that edits of a file are
abbrev pub text_edits : {FileId : Type 0} → List (Edit FileId) → List TextEdit
text_edits = map text_edit

-- an edit with its index in a list
pub record ListedEdit : Type 0 where
  pub index : ℕ
  pub edit : TextEdit

-- edits with their indices, of which the first is given
abbrev pub listed_from : ℕ → List TextEdit → List ListedEdit
listed_from i [] = []
listed_from i (e ∷ es) = (record { index = i; edit = e }) ∷ listed_from (i + 1) es

-- edits with their indices in the list
abbrev pub listed : List TextEdit → List ListedEdit
listed = listed_from 0

-- edits are compared by their starts, then by their ends, then by their indices
abbrev pub compare : ListedEdit → ListedEdit → Ordering
compare x y =
    ordering_then (nat_cmp x.edit.start y.edit.start)
    (ordering_then (nat_cmp x.edit.end y.edit.end) (nat_cmp x.index y.index))

-- whether one edit is before another one in their order
abbrev pub is_before : ListedEdit → ListedEdit → Bool
is_before x y = is_lt (compare x y)

-- edits that are in order, with one more put before the first one that is not before it
abbrev pub insert_in_order : ListedEdit → List ListedEdit → List ListedEdit
insert_in_order x [] = x ∷ []
insert_in_order x (y ∷ ys) =
    if is_before y x then y ∷ insert_in_order x ys else x ∷ (y ∷ ys)

-- edits, brought to their order
abbrev pub in_order : List ListedEdit → List ListedEdit
in_order [] = []
in_order (x ∷ xs) = insert_in_order x (in_order xs)

-- the edits of a list in their order, and their indices in the list
abbrev pub ordered : List TextEdit → List TextEdit
ordered edits = map (λ (x : ListedEdit). x.edit) (in_order (listed edits))

abbrev pub order_of : List TextEdit → List ℕ
order_of edits = map (λ (x : ListedEdit). x.index) (in_order (listed edits))

-- the text from a byte on, with the replacements of edits that are in order, start at the byte or
-- later, and do not overlap
abbrev pub edited_from : List ℕ → ℕ → List ListedEdit → List ℕ
edited_from text byte [] = drop byte text
edited_from text byte (x ∷ xs) =
    slice_range text byte x.edit.start ++ (x.edit.replacement ++ edited_from text x.edit.end xs)

-- the text after all edits of a list
abbrev pub edited : List ℕ → List TextEdit → List ℕ
edited text edits = edited_from text 0 (in_order (listed edits))
