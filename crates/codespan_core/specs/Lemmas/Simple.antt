-- For the members and calls of `SimpleFile`, and of other databases of texts: the file of a text is
-- lawful, and which line has a byte.
use Rattle.std.proofs.Common.{◌≡◌, ℕ, zero, suc, ◌+◌, ◌-◌, ◌^◌, ◌<◌}
use Rattle.std.proofs.Common.{◌≤◌, List, [], ◌∷◌, length, get_or, refl, arith, Option}
use Rattle.std.proofs.Common.{◌⊎◌, ⊎_elim, inl, inr}
use Rattle.std.proofs.lemmas.Bool.{cases_lt}
use Rattle.std.proofs.lemmas.Bool.Decides.{leb_tells}
use Rattle.std.proofs.Common.{add-zero, Ok, Err}
use Rattle.std.proofs.lemmas.List.Sorted.{searched}
use Rattle.std.specs.List.Sorted.{IsBinarySearchResult}
use Rattle.std.specs.Ordering.{nat_cmp}
use Rattle.codespan_core.specs.FileModel.{line_of}
use Rattle.std.specs.Prelude.{count_by, nat_le, nat_lt, if◌then◌else◌, Some, None, ◌↔◌}
use Rattle.codespan_core.specs.declared.files.error.Error.{Error}
use Rattle.codespan_core.specs.declared.files.error.Error.TheVariants.{LineTooLarge}
use Rattle.std.specs.Str.{IsUtf8, IsCharBoundary}
use Rattle.std.specs.declared.convert.AsStr.{Ghosts}
use Rattle.std.proofs.lemmas.Str.{IsUtf8-had}
use Rattle.codespan_core.specs.declared.files.simple.SimpleFile.{SimpleFile}
use Rattle.codespan_core.specs.SimpleFileViews.{source_of}
use Rattle.std.proofs.lemmas.Str.{IsCharBoundary-after_ascii, IsCharBoundary-start}
use Rattle.std.proofs.lemmas.Str.{IsCharBoundary-end}
use Rattle.std.proofs.lemmas.List.{get_or_append_left, get_or_push, length-append}
use Rattle.codespan_core.specs.Lines.{line_starts_of, starts_after}
use Rattle.codespan_core.specs.SimpleModel.{simple_file, simple_failure, line_ends}
use Rattle.codespan_core.specs.declared.files.Location.{Location}
use Rattle.codespan_core.specs.FileModel.{FileModel, or_failure}
use Rattle.codespan_core.specs.LawfulFiles.{IsLawful, FailsPastLastLine, IsPastLastLineError}
use Rattle.codespan_core.specs.FileModel.Lookup.{LineRange}
use Rattle.codespan_core.specs.Lemmas.Lines.{cuts, count_split}

-- a line starts at a character boundary
pub start_cut : (text : List ℕ) → IsUtf8 text → (i : ℕ) → i < length (line_starts_of text)
    → IsCharBoundary text (get_or (line_starts_of text) i 0)
start_cut text u zero h = IsCharBoundary-start text u
start_cut text u (suc k) h =
    let c = cuts 0 text in
    let x : ℕ = get_or (starts_after 0 text) k 0 in
    let above : 0 < x = c.above k (omega arith) in
    let within : x ≤ 0 + length text = c.within k (omega arith) in
    let newline : get_or text (x - (0 + 1)) 0 ≡ 10 = c.newline k (omega arith) in
    let e : x ≡ (x - (0 + 1)) + 1 = omega arith in
    rw e (IsCharBoundary-after_ascii text (x - (0 + 1)) u (omega arith) (omega arith))

-- a line starts before the next one
pub ascending : (text : List ℕ) (i : ℕ) → i + 1 < length (line_starts_of text)
    → get_or (line_starts_of text) i 0 < get_or (line_starts_of text) (i + 1) 0
ascending text zero h = (cuts 0 text).above 0 (omega arith)
ascending text (suc k) h =
    let e : suc k + 1 ≡ suc (k + 1) = omega arith in
    rw e ((cuts 0 text).ascending k (omega arith))

-- a line before the last ends where the next one starts
pub end_before_last : (text : List ℕ) (i : ℕ) → i + 1 < length (line_starts_of text)
    → get_or (line_ends text) i 0 ≡ get_or (line_starts_of text) (i + 1) 0
end_before_last text i h =
    let e : i + 1 ≡ suc i = omega arith in
    rw e (get_or_append_left (starts_after 0 text) (length text ∷ []) 0 i (omega arith))

-- the last line ends with the text
pub end_of_last : (text : List ℕ) (i : ℕ) → i + 1 ≡ length (line_starts_of text)
    → get_or (line_ends text) i 0 ≡ length text
end_of_last text i h = get_or_push (starts_after 0 text) (length text) 0 i (omega arith)

-- a line is the last, or another one comes after it
pub last_or_not : (text : List ℕ) (i : ℕ) → i < length (line_starts_of text)
    → (i + 1 < length (line_starts_of text)) ⊎ (i + 1 ≡ length (line_starts_of text))
last_or_not text i h =
    ⊎_elim inl (λ p. inr (omega arith)) (cases_lt (i + 1) (length (line_starts_of text)))

-- a line ends at a character boundary
end_cut : (text : List ℕ) → IsUtf8 text → (i : ℕ) → i < length (line_starts_of text)
    → IsCharBoundary text (get_or (line_ends text) i 0)
end_cut text u i h =
    elim (last_or_not text i h) [
      | inl p ↦ rw (end_before_last text i p) (start_cut text u (i + 1) p)
      | inr p ↦ rw (end_of_last text i p) (IsCharBoundary-end text)
    ]

-- a line does not end before its start
end_after : (text : List ℕ) → IsUtf8 text → (i : ℕ) → i < length (line_starts_of text)
    → get_or (line_starts_of text) i 0 ≤ get_or (line_ends text) i 0
end_after text u i h =
    elim (last_or_not text i h) [
      | inl p ↦ omega (arith, end_before_last text i p, ascending text i p)
      | inr p ↦ omega (arith, end_of_last text i p, (start_cut text u i h).0)
    ]

-- the file of a text is lawful
pub simple_lawful : (name : Option (List ℕ)) (text : List ℕ) → IsUtf8 text
    → length text < 2 ^ 64
    → IsLawful (simple_file name text)
simple_lawful name text u fits = record {
  is_utf8 = u;
  fits = fits;
  has_line = omega arith;
  first = refl;
  ascending = ascending text;
  starts_on_boundaries = start_cut text u;
  ends_on_boundaries = end_cut text u;
  ends_after_start = end_after text u;
  ends_before_next = λ i h. omega (arith, end_before_last text i h);
  same_length = simp length-append (omega arith);
  missing_name = λ e. absurd (cc);
  missing_text = λ e. absurd (cc);
}

-- of n lines, exactly those from n on fail with the error past the last
pub past_last_line_is : (n i : ℕ)
    → IsPastLastLineError (if nat_lt i n then None else Some (LineTooLarge i (n - 1))) ↔
    (n ≤ i)
past_last_line_is n i =
    elim (leb_tells (suc i) n) [
      | inl p ↦ rw p.0 (absurd, λ h. omega (arith, h, p.1))
      | inr p ↦ rw p.0 (λ _. omega (arith, p.1), λ _. tt)
    ]

-- the file of a text fails with `LineTooLarge` exactly past its last line
pub simple_past_last_line : (name : Option (List ℕ)) (text : List ℕ) (i : ℕ)
    → FailsPastLastLine (simple_file name text) i (simple_failure text (LineRange i))
simple_past_last_line name text i there = past_last_line_is (length (line_starts_of text)) i

-- the law still holds where lines that exist may fail too, with any other error
pub or_failure-past_last_line : (f : FileModel) (i : ℕ) (o p : Option Error)
    → (IsPastLastLineError p → ⊥) → FailsPastLastLine f i o
    → FailsPastLastLine f i (or_failure o p)
or_failure-past_last_line f i None p other h =
    λ there. (λ past. absurd (other past), λ late. absurd ((h there).1 late))
or_failure-past_last_line f i (Some e) p other h = h

-- a line d lines further down starts no earlier
in_order_by : (text : List ℕ) (i d : ℕ) → i + d < length (line_starts_of text)
    → get_or (line_starts_of text) i 0 ≤ get_or (line_starts_of text) (i + d) 0
in_order_by text i zero h = rw add-zero (omega arith)
in_order_by text i (suc d) h =
    let e : i + suc d ≡ (i + d) + 1 = omega arith in
    let before : get_or (line_starts_of text) i 0 ≤ get_or (line_starts_of text) (i + d) 0 =
    in_order_by text i d (omega arith) in
    let after :
    get_or (line_starts_of text) (i + d) 0 < get_or (line_starts_of text) ((i + d) + 1) 0
    = ascending text (i + d) (omega arith) in
    rw e (omega arith)

-- lines start in their order
in_order : (text : List ℕ) (i j : ℕ) → i ≤ j → j < length (line_starts_of text)
    → get_or (line_starts_of text) i 0 ≤ get_or (line_starts_of text) j 0
in_order text i j h k =
    let e : j ≡ i + (j - i) = omega arith in
    rw e (in_order_by text i (j - i) (omega arith))

-- the line of a byte at which a line starts
pub line_found_at_start : (text xs : List ℕ) (byte i : ℕ) → xs ≡ line_starts_of text
    → IsBinarySearchResult (λ y. nat_cmp y byte) xs (Ok i)
    → i ≡ line_of (line_starts_of text) byte
unfolding line_of
line_found_at_start text xs byte i e found =
    let f = searched (line_starts_of text) byte (Ok i) (rw e at found) (in_order text) in
    let n : count_by (λ s. nat_le s byte) (line_starts_of text) ≡ i + 1 =
    count_split byte (line_starts_of text) (i + 1) (omega (arith, f.0))
    (λ k p. omega (arith, in_order text k i (omega arith) f.0, f.1))
    (λ k p q. omega (arith, in_order text (i + 1) k p q, ascending text i (omega arith), f.1)) in
    omega arith

-- the line of a byte within a line
pub line_found_inside : (text xs : List ℕ) (byte i : ℕ) → xs ≡ line_starts_of text
    → IsBinarySearchResult (λ y. nat_cmp y byte) xs (Err i)
    → (1 ≤ i) × (i - 1 ≡ line_of (line_starts_of text) byte)
unfolding line_of
line_found_inside text xs byte i e found =
    let f = searched (line_starts_of text) byte (Err i) (rw e at found) (in_order text) in
    let n : count_by (λ s. nat_le s byte) (line_starts_of text) ≡ i =
    count_split byte (line_starts_of text) i f.0 (λ k p. omega (arith, f.1 k p)) f.2 in
    let some : 1 ≤ i =
    elim (cases_lt 0 i) [ inl p ↦ p | inr p ↦ absurd (omega (arith, f.2 0 p (omega arith))) ] in
    (some, omega arith)

-- the text of a `SimpleFile` is UTF-8
pub text_is_utf8 : {Name Source : Type 0} {texts : Ghosts Source}
    (file : SimpleFile Name Source texts) → IsUtf8 (texts.text (source_of file))
text_is_utf8 file = IsUtf8-had _ file.utf8

-- and is short enough for a `str`
pub text_fits : {Name Source : Type 0} {texts : Ghosts Source} (file : SimpleFile Name Source texts)
    → length (texts.text (source_of file)) < 2 ^ 64
text_fits file = file.fits

-- the law says nothing of numbers, columns and locations
pub renumbered_lawful : (f : FileModel) (number : ℕ → ℕ) (column : ℕ → ℕ → ℕ)
    (location : ℕ → Location) → IsLawful f
    → IsLawful (record f { line_number = number; column_number = column; location = location })
renumbered_lawful f number column location law = record {
  is_utf8 = law.is_utf8;
  fits = law.fits;
  has_line = law.has_line;
  first = law.first;
  ascending = law.ascending;
  starts_on_boundaries = law.starts_on_boundaries;
  ends_on_boundaries = law.ends_on_boundaries;
  ends_after_start = law.ends_after_start;
  ends_before_next = law.ends_before_next;
  same_length = law.same_length;
  missing_name = law.missing_name;
  missing_text = law.missing_text;
}
