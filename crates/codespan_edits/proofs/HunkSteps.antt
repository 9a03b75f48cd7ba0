-- The rows that are taken or left out, for the clauses `cut` of `hunks`.
use Rattle.codespan_core.proofs.Std.{◌≡◌, ◌≤◌, ◌<◌, ◌+◌, ◌-◌, ◌++◌, ◌∷◌, ◌∙◌, []}
use Rattle.codespan_core.proofs.Std.{ℕ, suc, List, length, Bool, true, false, refl, ap, sym, min}
use Rattle.codespan_core.proofs.Std.{take}
use Rattle.codespan_core.proofs.Std.{drop, subst, arith, inl, inr, cases_lt, append_assoc}
use Rattle.codespan_core.proofs.Std.{append-nil, length-append}
use Rattle.codespan_core.proofs.Std.{length-map, length-drop, map-append}
use Rattle.codespan_core.proofs.Std.{take-append-drop, drop-drop}
use Rattle.std.proofs.lemmas.List.{length-take}
use Rattle.codespan_edits.specs.Diffs.{Row, rows_with}
use Rattle.codespan_edits.specs.DiffLaws.{is_changed}
use Rattle.codespan_edits.specs.Numbers.{numbered_from, numbered, is_old, is_new, next_number}
use Rattle.codespan_edits.specs.DrawnRows.{Context, is_drawn, last_run, hunks_of}
use Rattle.codespan_edits.specs.RowViews.{numbered_view, hunks_view}
use Rattle.codespan_edits.specs.Private.Hunks.{hunks_with, ArePicked, Open, Cut}
use Rattle.codespan_edits.specs.declared.hunks.Cutter.{Cutter}
use Rattle.codespan_edits.specs.declared.rows.RowSign.{RowSign}
use Rattle.codespan_edits.specs.declared.rows.RowSign.TheVariants.{Kept}
use Rattle.codespan_edits.proofs.GapLemmas.{drawn-after, drawn-before, drawn-between, far}
use Rattle.codespan_edits.proofs.RunLemmas.{left-last}

-- the hunks are as they were with rows of this sign, once these are taken
abbrev pub Takes : Cutter → Cutter → RowSign → List (List ℕ) → ℕ → Type 0
Takes c d sign ls n = (picks : ℕ → Bool) (k : ℕ) (rs : List Row) → ArePicked picks true k n
    → hunks_with d picks (k + n) rs ≡ hunks_with c picks k (rows_with sign ls ++ rs)

-- or with kept rows, once so many are left out
abbrev pub Leaves : Cutter → Cutter → ℕ → Type 0
Leaves c d n = (picks : ℕ → Bool) (k : ℕ) (ls : List (List ℕ)) (rs : List Row) → length ls ≡ n
    → ArePicked picks false k n
    → hunks_with d picks (k + n) rs ≡ hunks_with c picks k (rows_with Kept ls ++ rs)

-- the same with other words for the lines and their number
pub takes-as : (c d : Cutter) (sign : RowSign) (xs ys : List (List ℕ)) (n m : ℕ) → ys ≡ xs
    → m ≡ n → Takes c d sign xs n → Takes c d sign ys m
takes-as c d sign xs ys n m p q takes =
    subst (λ zs. Takes c d sign zs m) (sym p) (subst (Takes c d sign xs) (sym q) takes)

-- the number of rows
length-numbered : (i j : ℕ) (rs : List Row) → length (numbered_from i j rs) ≡ length rs
length-numbered i j [] = refl
length-numbered i j (r ∷ rs) =
    ap suc
    (length-numbered (next_number (is_old r.sign) i) (next_number (is_new r.sign) j) rs)

module _ (context : Context) (full : List Row) where
  -- rows are taken
  abbrev pub taken : (c d : Cutter) (sign : RowSign) (ls : List (List ℕ)) (rest : List Row) (n : ℕ)
      (o : Open context full c (rows_with sign ls ++ rest)) → n ≡ length ls
      → ArePicked (is_drawn context (numbered full)) true (length o.done) n
      → Takes c d sign ls n → Open context full d rest
  taken c d sign ls rest n o len all step =
      let size : length (rows_with sign ls) ≡ length ls = rw length-map refl in
      record {
        done = o.done ++ rows_with sign ls;
        parts = o.parts ∙ sym (append_assoc o.done (rows_with sign ls) rest);
        hunks =
            ap (λ m. hunks_with d (is_drawn context (numbered full)) m rest)
            (omega (arith, length-append o.done (rows_with sign ls), size, len))
            ∙ (step (is_drawn context (numbered full)) (length o.done) rest all ∙ o.hunks);
      }

  -- the first rows of a gap that are drawn
  head-drawn : (c : Cutter) (g : List (List ℕ)) (rest : List Row) (h : ℕ)
      (cut : Cut context full c (rows_with Kept g ++ rest))
      → (c.started ≡ true → h ≡ min (length g) context.after)
      → (c.started ≡ false → h ≡ 0)
      → ArePicked (is_drawn context (numbered full)) true (length cut.open_rows.done) h
  head-drawn c g rest h cut head none i less = by c.started refl where
    by : (b : Bool) → c.started ≡ b
        → is_drawn context (numbered full) (length cut.open_rows.done + i) ≡ true
    by true is =
        drawn-after context full cut.open_rows.done g rest cut.open_rows.parts (cut.last is) i
        (omega (arith, less, head is))
    by false is = absurd (omega (arith, less, none is))

  -- what comes before is nothing, unless a row was changed
  started-here : (c : Cutter) (rest : List Row) (cut : Cut context full c rest)
      → 0 < length cut.open_rows.done → c.started ≡ true
  started-here c rest cut some = by c.started refl where
    by : (b : Bool) → c.started ≡ b → b ≡ true
    by true is = refl
    by false is = absurd (omega (arith, some, ap length (cut.start is)))

  -- a gap all of which is drawn
  pub joined : (c d : Cutter) (g : List (List ℕ)) (r : Row) (rs : List Row) (h : ℕ)
      (cut : Cut context full c (rows_with Kept g ++ (r ∷ rs))) → is_changed r.sign ≡ true
      → c.started ≡ true → h ≡ min (length g) context.after
      → length g - h - 1 ≤ context.before
      → Takes c d Kept g (length g) → Open context full d (r ∷ rs)
  joined c d g r rs h cut changed started head few step =
      taken c d Kept g (r ∷ rs) (length g) cut.open_rows refl all step where
        done : List Row
        done = cut.open_rows.done

        all : ArePicked (is_drawn context (numbered full)) true (length cut.open_rows.done)
            (length g)
        all i less =
            elim (cases_lt i context.after) [
              | inl soon ↦ drawn-after context full cut.open_rows.done g (r ∷ rs)
                  cut.open_rows.parts (cut.last started) i soon
              | inr late ↦ elim (cases_lt (i + context.before) (length g)) [
                | inl early ↦ drawn-between context full cut.open_rows.done g (r ∷ rs)
                    cut.open_rows.parts (cut.last started) r rs refl changed i
                    (omega (arith, less, late, early, head, few))
                    (omega (arith, less, late, early, head, few))
                    (omega (arith, less))
                | inr near ↦ drawn-before context full cut.open_rows.done g (r ∷ rs)
                    cut.open_rows.parts r rs refl changed i near (omega (arith, less))
              ]
            ]

  -- a gap of which some rows are left out, unless there are none between those that are drawn
  pub apart : (c0 c1 c2 c3 : Cutter) (g : List (List ℕ)) (r : Row) (rs : List Row) (h m t : ℕ)
      (cut : Cut context full c0 (rows_with Kept g ++ (r ∷ rs))) → is_changed r.sign ≡ true
      → h + m + t ≡ length g
      → (c0.started ≡ true → h ≡ min (length g) context.after)
      → (c0.started ≡ false → h ≡ 0)
      → t ≡ min (length g - h) context.before
      → (c0.started ≡ true → context.before < length g - h - 1)
      → Takes c0 c1 Kept (take h g) h → Leaves c1 c2 m → Takes c2 c3 Kept (drop (h + m) g) t
      → Open context full c3 (r ∷ rs)
  apart c0 c1 c2 c3 g r rs h m t cut changed sum head none tail many first second third = record {
    done = cut.open_rows.done ++ rows_with Kept g;
    parts = cut.open_rows.parts
        ∙ sym (append_assoc cut.open_rows.done (rows_with Kept g) (r ∷ rs));
    hunks =
        ap (λ n. hunks_with c3 picks n (r ∷ rs)) where_to
        ∙ (third picks (k + h + m) (r ∷ rs) last_ones
        ∙ (second picks (k + h) (take m (drop h g)) (rows_with Kept (drop (h + m) g) ++ (r ∷ rs))
        middle out
        ∙ (first picks k _ (head-drawn c0 g (r ∷ rs) h cut head none)
        ∙ (ap (hunks_with c0 picks k) (sym three) ∙ cut.open_rows.hunks))));
  }
    where
      picks : ℕ → Bool
      picks = is_drawn context (numbered full)

      k : ℕ
      k = length cut.open_rows.done

      size : length (rows_with Kept g) ≡ length g
      size = rw length-map refl

      where_to : length (cut.open_rows.done ++ rows_with Kept g) ≡ k + h + m + t
      where_to =
          omega (arith, length-append cut.open_rows.done (rows_with Kept g), size, sum)

      middle : length (take m (drop h g)) ≡ m
      middle = omega (arith, length-take m (drop h g), length-drop h g, sum)

      pieces : g ≡ take h g ++ (take m (drop h g) ++ drop (h + m) g)
      pieces =
          sym (take-append-drop h g)
          ∙ ap (λ xs. take h g ++ xs)
          (sym (take-append-drop m (drop h g))
          ∙ ap (λ xs. take m (drop h g) ++ xs) (drop-drop m h g))

      three : rows_with Kept g ++ (r ∷ rs)
          ≡ rows_with Kept (take h g) ++ (rows_with Kept (take m (drop h g))
          ++ (rows_with Kept (drop (h + m) g) ++ (r ∷ rs)))
      three =
          ap (λ xs. rows_with Kept xs ++ (r ∷ rs)) pieces
          ∙ (ap (λ xs. xs ++ (r ∷ rs))
          (map-append _ (take h g) (take m (drop h g) ++ drop (h + m) g)
          ∙ ap (λ xs. rows_with Kept (take h g) ++ xs)
          (map-append _ (take m (drop h g)) (drop (h + m) g)))
          ∙ (append_assoc (rows_with Kept (take h g))
          (rows_with Kept (take m (drop h g)) ++ rows_with Kept (drop (h + m) g)) (r ∷ rs)
          ∙ ap (λ xs. rows_with Kept (take h g) ++ xs)
          (append_assoc (rows_with Kept (take m (drop h g))) (rows_with Kept (drop (h + m) g))
          (r ∷ rs))))

      last_ones : ArePicked picks true (k + h + m) t
      last_ones i less =
          let at : k + h + m + i ≡ k + (h + m + i) = omega arith in
          ap picks at
          ∙ drawn-before context full cut.open_rows.done g (r ∷ rs) cut.open_rows.parts r rs refl
          changed (h + m + i) (omega (arith, less, sum, tail)) (omega (arith, less, sum))

      out : ArePicked picks false (k + h) m
      out i less =
          far context full cut.open_rows.done g (r ∷ rs) cut.open_rows.parts (k + h + i)
          (λ some.
          let is = started-here c0 (rows_with Kept g ++ (r ∷ rs)) cut some in
          let a = head is in
          let b = many is in omega (arith, a, b))
          (λ _. omega (arith, less, sum, tail))
          (λ some _.
          let is = started-here c0 (rows_with Kept g ++ (r ∷ rs)) cut some in
          let a = head is in
          let b = many is in omega (arith, a, b))

  -- the rows after the last changed one
  pub ended : (c d : Cutter) (g : List (List ℕ)) (h : ℕ)
      (cut : Cut context full c (rows_with Kept g)) → h ≤ length g
      → (c.started ≡ true → h ≡ min (length g) context.after)
      → (c.started ≡ false → h ≡ 0) → Takes c d Kept (take h g) h
      → hunks_view d.hunks ++ last_run (numbered_view d.run) ≡ hunks_of context (numbered full)
  ended c d g h cut within head none step =
      ap (λ xs. hunks_view d.hunks ++ xs)
      (sym (left-last picks (drop h g) (numbered_view d.run) (k + h) (d.line + 1)
      (d.new_line + 1) out))
      ∙ (step picks k (rows_with Kept (drop h g)) front
      ∙ (ap (hunks_with c picks k) (sym two) ∙ cut.open_rows.hunks))
    where
      picks : ℕ → Bool
      picks = is_drawn context (numbered full)

      k : ℕ
      k = length cut.open_rows.done

      size : length (rows_with Kept g) ≡ length g
      size = rw length-map refl

      parts : full ≡ cut.open_rows.done ++ (rows_with Kept g ++ [])
      parts = cut.open_rows.parts
          ∙ ap (λ xs. cut.open_rows.done ++ xs) (sym (append-nil (rows_with Kept g)))

      two : rows_with Kept g ≡ rows_with Kept (take h g) ++ rows_with Kept (drop h g)
      two = ap (rows_with Kept) (sym (take-append-drop h g))
          ∙ map-append _ (take h g) (drop h g)

      all_rows : length (numbered full) ≡ k + length g
      all_rows = omega (
        arith,
        length-numbered 1 1 full,
        ap length cut.open_rows.parts,
        length-append cut.open_rows.done (rows_with Kept g),
        size,
      )

      front : ArePicked picks true k h
      front i less = by c.started refl where
        by : (b : Bool) → c.started ≡ b → picks (k + i) ≡ true
        by true is = drawn-after context full cut.open_rows.done g [] parts (cut.last is) i
            (omega (arith, less, head is))
        by false is = absurd (omega (arith, less, none is))

      out : ArePicked picks false (k + h) (length (drop h g))
      out i less =
          far context full cut.open_rows.done g [] parts (k + h + i)
          (λ some.
          let is = started-here c (rows_with Kept g) cut some in
          let a = head is in omega (arith, a, less, length-drop h g))
          (λ more. absurd (omega (arith, more, all_rows)))
          (λ _ more. absurd (omega (arith, more, all_rows)))
