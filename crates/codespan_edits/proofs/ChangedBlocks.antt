-- The changed rows of a block are taken, for the clause `cut` of `push_block`.
use Rattle.codespan_core.proofs.Std.{◌≡◌, ◌<◌, ◌++◌, ◌∷◌, []}
use Rattle.codespan_core.proofs.Std.{ℕ, List, length, true, refl, sym, subst}
use Rattle.codespan_core.proofs.Std.{arith, append-nil}
use Rattle.codespan_core.proofs.Std.{◌⊎◌}
use Rattle.codespan_core.proofs.Std.{inl, inr, true≢false}
use Rattle.codespan_edits.specs.Diffs.{Row, rows_with}
use Rattle.codespan_edits.specs.DiffLaws.{is_changed}
use Rattle.codespan_edits.specs.DrawnRows.{Context}
use Rattle.codespan_edits.specs.Private.Hunks.{Open, Cut, EndsChanged}
use Rattle.codespan_edits.specs.declared.hunks.Cutter.{Cutter}
use Rattle.codespan_edits.specs.declared.rows.RowSign.TheVariants.{Kept, Removed, Added}
use Rattle.codespan_edits.proofs.GapLemmas.{changed-picked}
use Rattle.codespan_edits.proofs.RunLemmas.{ends-changed}
use Rattle.codespan_edits.proofs.HunkSteps.{Takes, taken}

-- the first of some changed rows
first-changed : (xs ys : List (List ℕ)) (rest : List Row)
    → (0 < length xs) ⊎ (0 < length ys)
    → (r : Row) × (rs : List Row) × (is_changed r.sign ≡ true)
    × (rows_with Removed xs ++ (rows_with Added ys ++ rest) ≡ r ∷ rs)
first-changed (x ∷ xs) ys rest some = (_, _, refl, refl)
first-changed [] (y ∷ ys) rest some = (_, _, refl, refl)
first-changed [] [] rest (inl h) = absurd (omega (arith, h))
first-changed [] [] rest (inr h) = absurd (omega (arith, h))

-- the changed rows of a block are taken
pub pushed : (context : Context) (full : List Row) (c0 c1 c2 c3 : Cutter)
    (kept removed added : List (List ℕ)) (rest : List Row)
    (cut : Cut context full c0 (rows_with Kept kept
    ++ (rows_with Removed removed ++ (rows_with Added added ++ rest))))
    → (0 < length removed) ⊎ (0 < length added)
    → ((r : Row) (rs : List Row) → is_changed r.sign ≡ true
    → Cut context full c0 (rows_with Kept kept ++ (r ∷ rs)) → Open context full c1 (r ∷ rs))
    → Takes c1 c2 Removed removed (length removed) → Takes c2 c3 Added added (length added)
    → Cut context full (record {
      hunks = c3.hunks;
      run = c3.run;
      started = true;
      line = c3.line;
      new_line = c3.new_line;
    }) rest
pushed context full c0 c1 c2 c3 kept removed added rest cut some skip first second = record {
  open_rows = record { done = o3.done; parts = o3.parts; hunks = o3.hunks };
  start = λ h. absurd (true≢false h);
  last = λ _. ends some;
}
  where
    found : (r : Row) × (rs : List Row) × (is_changed r.sign ≡ true)
        × (rows_with Removed removed ++ (rows_with Added added ++ rest) ≡ r ∷ rs)
    found = first-changed removed added rest some

    o1 : Open context full c1 (rows_with Removed removed ++ (rows_with Added added ++ rest))
    o1 = subst (Open context full c1) (sym found.3) (skip found.0 found.1 found.2
        (subst (λ xs. Cut context full c0 (rows_with Kept kept ++ xs)) found.3 cut))

    o2 : Open context full c2 (rows_with Added added ++ rest)
    o2 = taken context full c1 c2 Removed removed (rows_with Added added ++ rest) (length removed)
        o1 refl
        (changed-picked context full o1.done Removed removed (rows_with Added added ++ rest)
        o1.parts refl) first

    o3 : Open context full c3 rest
    o3 = taken context full c2 c3 Added added rest (length added) o2 refl
        (changed-picked context full o2.done Added added rest o2.parts refl) second

    ends : (0 < length removed) ⊎ (0 < length added) → EndsChanged o3.done
    ends (inr h) = ends-changed (o1.done ++ rows_with Removed removed) Added added refl h
    ends (inl h) = by added where
      by : (ys : List (List ℕ))
          → EndsChanged ((o1.done ++ rows_with Removed removed) ++ rows_with Added ys)
      by [] = subst EndsChanged (sym (append-nil (o1.done ++ rows_with Removed removed)))
          (ends-changed o1.done Removed removed refl h)
      by (y ∷ ys) =
          ends-changed (o1.done ++ rows_with Removed removed) Added (y ∷ ys) refl (omega arith)
