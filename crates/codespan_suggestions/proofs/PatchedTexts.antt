-- For the clause of `laws::unified_diffs_are_patches`.
use Rattle.codespan_core.proofs.Std.{◌≡◌, ◌∙◌, ℕ, ◌+◌, ◌<◌, ◌^◌, Bool, true, false}
use Rattle.codespan_core.proofs.Std.{if◌then◌else◌, List, [], ◌∷◌, ◌++◌, length, map, flat_map}
use Rattle.codespan_core.proofs.Std.{filter, refl, sym, ap, ap₂, subst, arith, codes, append_assoc}
use Rattle.codespan_core.proofs.Std.{append-nil, AllByRecursion, AllZip, cond_both, length-append}
use Rattle.codespan_core.proofs.Std.{map-append, filter-append}
use Rattle.codespan_edits.specs.Edits.{TextEdit, edited}
use Rattle.codespan_edits.specs.Diffs.{Row, diff_rows}
use Rattle.codespan_edits.specs.DrawnRows.{Context, diff_hunks, runs_from, last_run, is_drawn}
use Rattle.codespan_edits.specs.HunkLaws.{rows_of_hunks}
use Rattle.codespan_edits.specs.Numbers.{NumberedRow, numbered_from, numbered, is_old, is_new}
use Rattle.codespan_edits.specs.Numbers.{next_number}
use Rattle.codespan_edits.specs.declared.rows.RowSign.{RowSign}
use Rattle.codespan_edits.proofs.DiffLines.{diff-has-all-lines}
use Rattle.codespan_edits.proofs.HunkPatches.{hunks-are-patch}
use Rattle.codespan_edits.proofs.PatchesBack.{hunks-are-patch-back}
use Rattle.codespan_suggestions.specs.EditedFiles.{edited_files, edits_of_file}
use Rattle.codespan_suggestions.specs.UnifiedDiffs.{hunk_text, patch_text, path_text, file_hunks}
use Rattle.codespan_suggestions.specs.UnifiedDiffs.{patch_context}
use Rattle.codespan_suggestions.specs.ReadOutput.{text_rows}
use Rattle.codespan_suggestions.specs.ReadPatches.{patch_lines, patched_files, patch_read}
use Rattle.codespan_suggestions.specs.ReadableChars.{IsOneRow}
use Rattle.codespan_suggestions.specs.PatchLaws.{CanBePatched, ArePatch, patched_ids}
use Rattle.codespan_suggestions.specs.PatchLaws.{UnifiedDiffsArePatches}
use Rattle.codespan_suggestions.proofs.ReadLemmas.{rows-cut}
use Rattle.codespan_suggestions.proofs.ReadTexts.{IsLine}
use Rattle.codespan_suggestions.proofs.ReadFits.{one-by, one-then}
use Rattle.codespan_suggestions.proofs.ReadOutputs.{filter-map, filter-all, zip-all}
use Rattle.codespan_suggestions.proofs.DrawableRows.{IsDrawable, rows-drawable, few-lines}
use Rattle.codespan_suggestions.proofs.PatchTexts.{ended, ended-append, hunk_lines, hunk-ended}
use Rattle.codespan_suggestions.proofs.PatchTexts.{file_lines, head-ended, path-one, lines-then}
use Rattle.codespan_suggestions.proofs.PatchReads.{count_in, numbered_row, row_of}
use Rattle.codespan_suggestions.proofs.PatchFiles.{IsHunk, are-few, NamedHunks, all_lines}
use Rattle.codespan_suggestions.proofs.PatchFiles.{all_texts}
use Rattle.codespan_suggestions.proofs.PatchFiles.{AllHunks, has_hunks, files-step, files-back}

-- ---- hunks of rows that follow on each other

-- the number after a row, and how many rows are still to come
next-count : (test : RowSign → Bool) (sign : RowSign) (line : List ℕ) (rows : List Row) (n : ℕ)
    → next_number (test sign) n + count_in test rows ≡ n + count_in test (row_of sign line ∷ rows)
next-count test sign line rows n = by (test sign) where
  by : (b : Bool)
      → next_number b n + count_in test rows
      ≡ n + length (map (λ (r : Row). r.line)
      (if b then row_of sign line ∷ filter (λ (r : Row). test r.sign) rows
      else filter (λ (r : Row). test r.sign) rows))
  by true = omega arith
  by false = refl

push-count : (test : RowSign → Bool) (rows : List Row) (sign : RowSign) (line : List ℕ) (n : ℕ)
    → next_number (test sign) (n + count_in test rows)
    ≡ n + count_in test (rows ++ row_of sign line ∷ [])
push-count test rows sign line n =
    let p : Row → Bool = λ r. test r.sign in
    let split : count_in test (rows ++ row_of sign line ∷ [])
    ≡ count_in test rows + count_in test (row_of sign line ∷ []) =
    ap (λ xs. length (map (λ (r : Row). r.line) xs)) (filter-append p rows (row_of sign line ∷ []))
    ∙ (ap length (map-append (λ (r : Row). r.line) (filter p rows)
    (filter p (row_of sign line ∷ [])))
    ∙ length-append (map (λ (r : Row). r.line) (filter p rows))
    (map (λ (r : Row). r.line) (filter p (row_of sign line ∷ [])))) in
    by (test sign) (count_in test rows) ∙ ap (λ m. n + m) (sym split)
  where
    by : (b : Bool) (m : ℕ)
        → next_number b (n + m)
        ≡ n + (m + length (map (λ (r : Row). r.line) (if b then row_of sign line ∷ [] else [])))
    by true m = omega arith
    by false m = omega arith

numbered-push : (rows : List Row) (i j : ℕ) (sign : RowSign) (line : List ℕ)
    → numbered_from i j (rows ++ row_of sign line ∷ [])
    ≡ numbered_from i j rows
    ++ numbered_row (i + count_in is_old rows) (j + count_in is_new rows) sign line ∷ []
numbered-push [] i j sign line =
    let m : i ≡ i + 0 = omega arith in
    let n : j ≡ j + 0 = omega arith in
    ap₂ (λ (x y : ℕ). numbered_row x y sign line ∷ []) m n
numbered-push (r ∷ rs) i j sign line =
    let k = next_number (is_old r.sign) i in
    let l = next_number (is_new r.sign) j in
    ap (λ xs. numbered_row i j r.sign r.line ∷ xs)
    (numbered-push rs k l sign line
    ∙ ap₂ (λ (m n : ℕ). numbered_from k l rs ++ numbered_row m n sign line ∷ [])
    (next-count is_old r.sign r.line rs i) (next-count is_new r.sign r.line rs j))

lines-push : (rows : List Row) (r : Row) → AllByRecursion (λ (r : Row). IsLine r.line) rows
    → IsLine r.line → AllByRecursion (λ (r : Row). IsLine r.line) (rows ++ r ∷ [])
lines-push [] r all one = (one, tt)
lines-push (x ∷ xs) r all one = (all.0, lines-push xs r all.1 one)

last-hunk : (held : List NumberedRow) (runs : List (List NumberedRow)) → IsHunk held
    → AllByRecursion IsHunk runs → AllByRecursion IsHunk (last_run held ++ runs)
last-hunk [] runs is all = all
last-hunk (h ∷ hs) runs is all = (is, all)

runs-hunks : (rows : List Row) (picks : ℕ → Bool) (k i j : ℕ) (held : List NumberedRow)
    → (is : IsHunk held) → i ≡ is.first + count_in is_old is.rows
    → j ≡ is.second + count_in is_new is.rows → i + count_in is_old rows < 2 ^ 64
    → j + count_in is_new rows < 2 ^ 64
    → AllByRecursion (λ (r : Row). IsLine r.line) rows
    → AllByRecursion IsHunk (runs_from picks k held (numbered_from i j rows))
runs-hunks [] picks k i j held is at next few less all =
    subst (AllByRecursion IsHunk) (append-nil (last_run held)) (last-hunk held [] is tt)
runs-hunks (r ∷ rs) picks k i j held is at next few less all =
    let x = numbered_row i j r.sign r.line in
    let i2 = next_number (is_old r.sign) i in
    let j2 = next_number (is_new r.sign) j in
    let old = next-count is_old r.sign r.line rs i in
    let new = next-count is_new r.sign r.line rs j in
    let fewer : i2 + count_in is_old rs < 2 ^ 64 = omega (arith, old, few) in
    let lesser : j2 + count_in is_new rs < 2 ^ 64 = omega (arith, new, less) in
    let at2 : i2 ≡ is.first + count_in is_old (is.rows ++ row_of r.sign r.line ∷ []) =
    ap (next_number (is_old r.sign)) at ∙ push-count is_old is.rows r.sign r.line is.first in
    let next2 : j2 ≡ is.second + count_in is_new (is.rows ++ row_of r.sign r.line ∷ []) =
    ap (next_number (is_new r.sign)) next ∙ push-count is_new is.rows r.sign r.line is.second in
    let longer : IsHunk (held ++ x ∷ []) = record {
      first = is.first;
      second = is.second;
      rows = is.rows ++ row_of r.sign r.line ∷ [];
      is =
          ap₂ (λ (xs : List NumberedRow) (y : NumberedRow). xs ++ y ∷ []) is.is
          (ap₂ (λ (m n : ℕ). numbered_row m n r.sign r.line) at next)
          ∙ sym (numbered-push is.rows is.first is.second r.sign r.line);
      old = omega (arith, at2, fewer);
      new = omega (arith, next2, lesser);
      lines = lines-push is.rows r is.lines all.0;
    } in
    let none : IsHunk [] = record {
      first = i2;
      second = j2;
      rows = [];
      is = refl;
      old = omega (arith, fewer);
      new = omega (arith, lesser);
      lines = tt;
    } in
    cond_both (picks k) (runs_from picks (k + 1) (held ++ x ∷ []) (numbered_from i2 j2 rs))
    (last_run held ++ runs_from picks (k + 1) [] (numbered_from i2 j2 rs)) (AllByRecursion IsHunk)
    (λ _. runs-hunks rs picks (k + 1) i2 j2 (held ++ x ∷ []) longer at2 next2 fewer lesser all.1)
    (λ _. last-hunk held (runs_from picks (k + 1) [] (numbered_from i2 j2 rs)) is
    (runs-hunks rs picks (k + 1) i2 j2 [] none (omega arith) (omega arith) fewer lesser all.1))

-- rows that can be drawn have lines
drawable-lines : (rows : List Row) (i j : ℕ)
    → AllByRecursion IsDrawable (numbered_from i j rows)
    → AllByRecursion (λ (r : Row). IsLine r.line) rows
drawable-lines [] i j all = tt
drawable-lines (r ∷ rs) i j all = (
  all.0.is_line,
  drawable-lines rs (next_number (is_old r.sign) i)
      (next_number (is_new r.sign) j) all.1,
)

hunks-are : (context : Context) (text : List ℕ) (edits : List TextEdit)
    → CanBePatched text edits → AllByRecursion IsHunk (diff_hunks context text edits)
hunks-are context text edits can =
    let rows = diff_rows text edits in
    let both = diff-has-all-lines text edits can.fine in
    let before = few-lines text in
    let after = few-lines (edited text edits) in
    runs-hunks rows (is_drawn context (numbered rows)) 0 1 1 []
    (record {
      first = 1;
      second = 1;
      rows = [];
      is = refl;
      old = omega arith;
      new = omega arith;
      lines = tt;
    })
    (omega arith) (omega arith) (omega (arith, ap length both.0, before, can.before.len))
    (omega (arith, ap length both.1, after, can.after.len))
    (drawable-lines rows 1 1 (rows-drawable text edits can.fine can.before can.after))

-- ---- texts of files

hunk-lines : (rows : List Row) (i j : ℕ) → AllByRecursion (λ (r : Row). IsLine r.line) rows
    → AllByRecursion (λ (r : NumberedRow). IsLine r.row.line) (numbered_from i j rows)
hunk-lines [] i j all = tt
hunk-lines (r ∷ rs) i j all =
    (all.0, hunk-lines rs (next_number (is_old r.sign) i) (next_number (is_new r.sign) j) all.1)

hunks-ended : (hunks : List (List NumberedRow)) → AllByRecursion IsHunk hunks
    → (flat_map hunk_text hunks ≡ ended (flat_map hunk_lines hunks))
    × AllByRecursion IsOneRow (flat_map hunk_lines hunks)
hunks-ended [] all = (refl, tt)
hunks-ended (h ∷ hs) all =
    let is = all.0 in
    let one = hunk-ended h
    (subst (AllByRecursion (λ (r : NumberedRow). IsLine r.row.line)) (sym is.is)
    (hunk-lines is.rows is.first is.second is.lines)) (are-few h is) in
    let more = hunks-ended hs all.1 in (
      ap₂ (λ xs ys. xs ++ ys) one.0 more.0
          ∙ sym (ended-append (hunk_lines h) (flat_map hunk_lines hs)),
      lines-then (hunk_lines h) (flat_map hunk_lines hs) one.1 more.1,
    )

file-ended : (name : List ℕ) (hunks : List (List NumberedRow)) → AllByRecursion IsHunk hunks
    → (patch_text name hunks ≡ ended (file_lines name hunks))
    × AllByRecursion IsOneRow (file_lines name hunks)
file-ended name [] all = (refl, tt)
file-ended name (h ∷ hs) all =
    let a = path_text (codes "a/") name in
    let b = path_text (codes "b/") name in
    let first = (codes "--- " ++ a) ++ 10 ∷ [] in
    let second = (codes "+++ " ++ b) ++ 10 ∷ [] in
    let each = hunks-ended (h ∷ hs) all in (
      ap₂ (λ xs ys. xs ++ ys)
          (head-ended a b ∙ ap (λ xs. first ++ xs) (append-nil second)) each.0
          ∙ append_assoc first second (ended (flat_map hunk_lines (h ∷ hs))),
      (
        one-then (codes "--- ") a (one-by (codes "--- ") refl)
            (path-one (codes "a/") name (one-by (codes "a/") refl)),
        (
          one-then (codes "+++ ") b (one-by (codes "+++ ") refl)
              (path-one (codes "b/") name (one-by (codes "b/") refl)),
          each.1,
        ),
      ),
    )

all-ended : (fs : List NamedHunks) → AllHunks fs
    → (all_texts fs ≡ ended (all_lines fs)) × AllByRecursion IsOneRow (all_lines fs)
all-ended [] all = (refl, tt)
all-ended (f ∷ fs) all =
    let one = file-ended f.0 f.1 all.0 in
    let more = all-ended fs all.1 in (
      ap₂ (λ xs ys. xs ++ ys) one.0 more.0
          ∙ sym (ended-append (file_lines f.0 f.1) (all_lines fs)),
      lines-then (file_lines f.0 f.1) (all_lines fs) one.1 more.1,
    )

-- the text of files reads as the rows of those that have hunks
files-read : (fs : List NamedHunks) → AllHunks fs
    → patch_read (all_texts fs)
    ≡ map rows_of_hunks (filter has_hunks (map (λ (f : NamedHunks). f.1) fs))
files-read fs all =
    let texts = all-ended fs all in
    ap (λ ls. patched_files (patch_lines 0 0 ls))
    (ap text_rows texts.0 ∙ rows-cut (all_lines fs) texts.1)
    ∙ (ap patched_files (files-step fs all) ∙ files-back fs all)

module _ {Id : Type 0} (hunks_of : Id → List (List NumberedRow)) where
  -- a file with its hunks
  abbrev with_hunks : Id × List ℕ → NamedHunks
  with_hunks x = (x.1, hunks_of x.0)

  texts-of : (named : List (Id × List ℕ))
      → flat_map (λ (x : Id × List ℕ). patch_text x.1 (hunks_of x.0)) named
      ≡ all_texts (map with_hunks named)
  texts-of [] = refl
  texts-of (x ∷ xs) = ap (λ ys. patch_text x.1 (hunks_of x.0) ++ ys) (texts-of xs)

  hunks-of-named : (named : List (Id × List ℕ))
      → map (λ (f : NamedHunks). f.1) (map with_hunks named)
      ≡ map hunks_of (map (λ (x : Id × List ℕ). x.0) named)
  hunks-of-named [] = refl
  hunks-of-named (x ∷ xs) = ap (λ ys. hunks_of x.0 ∷ ys) (hunks-of-named xs)

  named-hunks : (P : Id → Type 0) → ((id : Id) → P id → AllByRecursion IsHunk (hunks_of id))
      → (named : List (Id × List ℕ))
      → AllByRecursion P (map (λ (x : Id × List ℕ). x.0) named)
      → AllHunks (map with_hunks named)
  named-hunks P each [] all = tt
  named-hunks P each (x ∷ xs) all = (each x.0 all.0, named-hunks P each xs all.1)

pub unified-diffs-are-patches : {Id : Type 0} → UnifiedDiffsArePatches Id
unified-diffs-are-patches {Id} database edits text is each =
    let named = is.0 in
    let ids = edited_files database.same edits in
    let hunks : Id → List (List NumberedRow) = file_hunks database edits in
    let texts : Id → List ℕ = λ id. (database.file id).text in
    let own : Id → List TextEdit = edits_of_file database.same edits in
    let P : Id → Type 0 = λ id. CanBePatched (texts id) (own id) in
    let all = named-hunks hunks P
    (λ id can. hunks-are patch_context (texts id) (own id) can) named
    (subst (AllByRecursion P) (sym is.1.files) each) in
    let reads : patch_read text
    ≡ map rows_of_hunks (map hunks (patched_ids database edits)) =
    ap patch_read (is.2 ∙ texts-of hunks named)
    ∙ (files-read (map (with_hunks hunks) named) all
    ∙ ap (map rows_of_hunks)
    (ap (filter has_hunks) (hunks-of-named hunks named ∙ ap (map hunks) is.1.files)
    ∙ filter-map has_hunks hunks ids)) in
    subst (AllZip (λ id rows. ArePatch (texts id) (own id) rows) (patched_ids database edits))
    (sym reads)
    (zip-all P (λ id rows. ArePatch (texts id) (own id) rows) hunks rows_of_hunks
    (λ id can. record {
      there = hunks-are-patch patch_context (texts id) (own id) can.fine;
      back = hunks-are-patch-back patch_context (texts id) (own id) can.fine;
    })
    (patched_ids database edits)
    (filter-all P (λ id. has_hunks (hunks id)) ids each))
