-- For the clauses of `laws::changed_rows_are_drawn` and `laws::hunks_are_patch`.
use Rattle.codespan_core.proofs.Std.{◌≡◌, ◌≤◌, ◌<◌, ◌+◌, ◌-◌, ◌++◌}
use Rattle.codespan_core.proofs.Std.{◌∷◌, ◌∙◌, [], ℕ, List, length, Bool, true, false}
use Rattle.codespan_core.proofs.Std.{get_or, cond, ◌&&◌, ◌||◌, refl, ap, sym, take, drop}
use Rattle.codespan_core.proofs.Std.{filter, arith, append_assoc, append-nil, flat_map-append}
use Rattle.codespan_core.proofs.Std.{filter-append, length-append, length-drop, if◌then◌else◌}
use Rattle.codespan_core.proofs.Std.{lt-ltb, drop_more, true≢false}
use Rattle.std.proofs.Math.Seq.{take-add}
use Rattle.codespan_edits.specs.DiffLaws.{is_changed}
use Rattle.codespan_edits.specs.Numbers.{NumberedRow, numbered}
use Rattle.codespan_edits.specs.Diffs.{diff_rows}
use Rattle.codespan_edits.specs.Patches.{shown_from, patched}
use Rattle.codespan_edits.specs.DrawnRows.{Context, changed_among, is_near_change, is_drawn}
use Rattle.codespan_edits.specs.DrawnRows.{runs_from, last_run, hunks_of}
use Rattle.codespan_edits.specs.HunkLaws.{rows_of_hunks, ChangedRowsAreDrawn, HunksArePatch}
use Rattle.codespan_edits.proofs.HunkLemmas.{changed_more}
use Rattle.codespan_edits.proofs.PatchLemmas.{shown-rows-are-patch}

-- ---- changed rows are drawn

-- more rows have more changed ones
changed-add : (n m : ℕ) (rows : List NumberedRow)
    → changed_among n rows ≤ changed_among (n + m) rows
changed-add n m rows =
    let p : NumberedRow → Bool = λ r. is_changed r.row.sign in
    let split : changed_among (n + m) rows ≡ length (filter p (take n rows)) + length
    (filter p (take m (drop n rows))) =
    ap (λ rs. length (filter p rs)) (take-add n m rows)
    ∙ (ap length (filter-append p (take n rows) (take m (drop n rows)))
    ∙ length-append (filter p (take n rows)) (filter p (take m (drop n rows)))) in
    rw split (omega arith)

pub changed-le : (m n : ℕ) (rows : List NumberedRow) → m ≤ n
    → changed_among m rows ≤ changed_among n rows
changed-le m n rows few =
    let is : n ≡ m + (n - m) = omega (arith, few) in
    rw is (changed-add m (n - m) rows)

pub changed-rows-are-drawn : ChangedRowsAreDrawn
changed-rows-are-drawn context rows k row inside is changed =
    let more : changed_among (k + 1) rows ≡ changed_among k rows + 1 =
    changed_more rows k row inside
    ∙ ap (λ b. changed_among k rows + cond b 1 0)
    (ap (λ (r : NumberedRow). is_changed r.row.sign) is ∙ changed) in
    let before : changed_among (k - context.after) rows ≤ changed_among k rows =
    changed-le (k - context.after) k rows (omega arith) in
    let after : changed_among (k + 1) rows ≤ changed_among (k + context.before + 1) rows =
    changed-le (k + 1) (k + context.before + 1) rows (omega arith) in
    let near : is_near_change context rows k ≡ true =
    lt-ltb (changed_among (k - context.after) rows)
    (changed_among (k + context.before + 1) rows) (omega (arith, more, before, after)) in
    ap (λ b. b || (is_near_change context rows (k - 1) && is_near_change context rows (k + 1)))
    near

-- ---- runs

-- each changed row is picked, where the first one has this index
Picked : (ℕ → Bool) → ℕ → List NumberedRow → Type 0
Picked picks k [] = Unit {0}
Picked picks k (r ∷ rs) =
    (is_changed r.row.sign ≡ true → picks k ≡ true) × Picked picks (k + 1) rs

held-rows : (held : List NumberedRow) → rows_of_hunks (last_run held) ≡ held
held-rows [] = refl
held-rows (r ∷ rs) = append-nil (r ∷ rs)

-- the rows of runs are those that are picked
runs-shown : (picks : ℕ → Bool) (k : ℕ) (held rs : List NumberedRow) → Picked picks k rs
    → rows_of_hunks (runs_from picks k held rs) ≡ held ++ shown_from picks k rs
unfolding Picked
runs-shown picks k held [] all = held-rows held ∙ sym (append-nil held)
runs-shown picks k held (r ∷ rs) all =
    by_test (picks k) (is_changed r.row.sign) all.0
    (runs-shown picks (k + 1) (held ++ r ∷ []) rs all.1)
    (runs-shown picks (k + 1) [] rs all.1) where
      by_test : (b c : Bool) → (c ≡ true → b ≡ true)
          → rows_of_hunks (runs_from picks (k + 1) (held ++ r ∷ []) rs)
          ≡ (held ++ r ∷ []) ++ shown_from picks (k + 1) rs
          → rows_of_hunks (runs_from picks (k + 1) [] rs) ≡ shown_from picks (k + 1) rs
          → rows_of_hunks (if b then runs_from picks (k + 1) (held ++ r ∷ []) rs
          else last_run held ++ runs_from picks (k + 1) [] rs)
          ≡ held ++ (if c || b then r ∷ shown_from picks (k + 1) rs
          else shown_from picks (k + 1) rs)
      by_test true true h more over =
          more ∙ append_assoc held (r ∷ []) (shown_from picks (k + 1) rs)
      by_test true false h more over =
          more ∙ append_assoc held (r ∷ []) (shown_from picks (k + 1) rs)
      by_test false true h more over = absurd (true≢false (sym (h refl)))
      by_test false false h more over =
          flat_map-append (λ hunk. hunk) (last_run held) (runs_from picks (k + 1) [] rs)
          ∙ (ap (λ xs. xs ++ rows_of_hunks (runs_from picks (k + 1) [] rs)) (held-rows held)
          ∙ ap (λ xs. held ++ xs) over)

-- the changed rows from an index on are drawn
all-picked : (context : Context) (rows : List NumberedRow) (k : ℕ) (rs : List NumberedRow)
    → drop k rows ≡ rs → Picked (is_drawn context rows) k rs
unfolding Picked
all-picked context rows k [] is = tt
all-picked context rows k (r ∷ rs) is =
    let len : length (r ∷ rs) ≡ length rows - k = sym (ap length is) ∙ length-drop k rows in
    let inside : k < length rows = omega (arith, len) in
    let next : r ∷ rs ≡ get_or rows k r ∷ drop (k + 1) rows =
    sym is ∙ drop_more rows k r inside in (
      λ changed.
          changed-rows-are-drawn context rows k r inside (sym (ap (λ l. get_or l 0 r) next))
          changed,
      all-picked context rows (k + 1) rs (sym (ap (drop 1) next)),
    )

-- the rows of the hunks of rows are those that are drawn
pub hunks-shown : (context : Context) (rows : List NumberedRow)
    → rows_of_hunks (hunks_of context rows) ≡ shown_from (is_drawn context rows) 0 rows
hunks-shown context rows =
    runs-shown (is_drawn context rows) 0 [] rows (all-picked context rows 0 rows refl)

pub hunks-are-patch : HunksArePatch
hunks-are-patch context text edits fine =
    let rows = numbered (diff_rows text edits) in
    ap (patched _) (runs-shown (is_drawn context rows) 0 [] rows
    (all-picked context rows 0 rows refl))
    ∙ shown-rows-are-patch text edits (is_drawn context rows) fine
