-- What edits of a list are to each other and to the text that they make.
use Rattle.std.specs.Prelude.{◌≡◌, ◌↔◌, ℕ, Bool, ◌&&◌, ◌==◌, nat_lt, List, []}
use Rattle.std.specs.Prelude.{◌∷◌, ◌++◌, take, drop, None}
use Rattle.std.specs.List.{IsDistinct, filter}
use Rattle.std.specs.List.Sorted.{IsPermutation}
use Rattle.codespan_edits.specs.Edits.{TextEdit, ListedEdit, listed, in_order, edited}
use Rattle.codespan_edits.specs.Faults.{first_own_fault, fault}

-- the text after one edit
abbrev pub edited_once : List ℕ → TextEdit → List ℕ
edited_once text e = take e.start text ++ (e.replacement ++ drop e.end text)

-- the text after edits one after another, from the last to the first
abbrev pub edited_backwards : List ℕ → List ListedEdit → List ℕ
edited_backwards text [] = text
edited_backwards text (x ∷ xs) = edited_once (edited_backwards text xs) x.edit

-- edits without a fault make what they make one after another, from the last in order to the first
abbrev pub EditsAreOneByOne : Type 0
EditsAreOneByOne = (text : List ℕ) (edits : List TextEdit) → fault text edits ≡ None
    → edited_backwards text (in_order (listed edits)) ≡ edited text edits

-- whether two edits overlap: each starts before the other ends
abbrev pub are_overlapping : TextEdit → TextEdit → Bool
are_overlapping x y = nat_lt x.start y.end && nat_lt y.start x.end

-- no two edits of a list overlap
abbrev pub AreApart : List TextEdit → Type 0
AreApart = IsDistinct are_overlapping

-- where no edit has a fault of its own, there is a fault exactly if two edits overlap
abbrev pub OverlapsAreFound : Type 0
OverlapsAreFound = (text : List ℕ) (edits : List TextEdit)
    → first_own_fault text (listed edits) ≡ None
    → (fault text edits ≡ None) ↔ AreApart edits

-- whether an edit is an insertion at a byte
abbrev pub is_insertion_at : ℕ → TextEdit → Bool
is_insertion_at byte e = e.start == byte && e.end == byte

-- two lists have the same edits, and the insertions at a byte in the same order
pub record HaveSameEdits (es fs : List TextEdit) : Type 0 where
  pub permutation : IsPermutation es fs
  pub insertions : (byte : ℕ) → filter (is_insertion_at byte) es ≡ filter
      (is_insertion_at byte) fs

-- of the order of a list only that of the insertions at a byte matters: where one list has no fault
-- the other has none, and they make the same
abbrev pub OrderMattersToInsertions : Type 0
OrderMattersToInsertions = (text : List ℕ) (es fs : List TextEdit) → HaveSameEdits es fs
    → fault text es ≡ None → (fault text fs ≡ None) × (edited text fs ≡ edited text es)
