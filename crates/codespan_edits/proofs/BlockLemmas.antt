-- The blocks of kept lines and edits, for the clauses of `blocks`.
use Rattle.codespan_core.proofs.Std.{◌≡◌, ◌≤◌, ◌+◌, ◌-◌, ◌++◌, ◌∷◌, ◌∙◌, []}
use Rattle.codespan_core.proofs.Std.{ℕ, List, length, true, cond, refl, ap}
use Rattle.codespan_core.proofs.Std.{sym, subst, take, drop, map, arith, append_assoc, append-nil}
use Rattle.codespan_core.proofs.Std.{length-append, map-append, drop-drop, slice_range, ◌⊎◌, inl}
use Rattle.codespan_core.proofs.Std.{inr, flat_map, AllByRecursion, length-drop}
use Rattle.codespan_core.proofs.Std.{take-append_seam, string_bytes, take_rest}
use Rattle.std.proofs.Math.Seq.{drop-append_seam}
use Rattle.codespan_edits.specs.Diffs.{lines, is_whole, Change, Row, kept, no_change}
use Rattle.codespan_edits.specs.Diffs.{block_rows, blocks_from, rows_with, is_block}
use Rattle.codespan_edits.specs.Private.Blocks.{LineBlock, block_view, line_rows, rows_of, FitLines}
use Rattle.codespan_edits.specs.Private.Blocks.{rows_to, FitTo, Holds, HoldsBlock}
use Rattle.codespan_edits.specs.declared.blocks.Block.{Block}
use Rattle.codespan_edits.specs.declared.blocks.Collector.{Collector}
use Rattle.codespan_edits.specs.declared.rows.RowSign.TheVariants.{Kept}
use Rattle.codespan_edits.proofs.LineLemmas.{lines-append}
use Rattle.codespan_edits.proofs.DiffBlocks.{same_change, last-rows}
use Rattle.codespan_edits.proofs.CutLast.{IsWholeLine, lines-wholes, rows-wholes}
use Rattle.codespan_edits.proofs.LineBlocks.{slice-join}

-- ---- blocks up to a line

fit-more : (i : ℕ) (bs : List LineBlock) (m n : ℕ) → m ≤ n → FitTo i bs m → FitTo i bs n
fit-more i [] m n h fit = omega (arith, h, fit)
fit-more i (b ∷ bs) m n h fit = (fit.0, fit.1, fit-more b.end bs m n h fit.2)

fit-push : (i : ℕ) (bs : List LineBlock) (b : LineBlock) → FitTo i bs b.first
    → b.first ≤ b.end → FitTo i (bs ++ b ∷ []) b.end
fit-push i [] b fit up = (fit, up, omega arith)
fit-push i (d ∷ bs) b fit up = (fit.0, fit.1, fit-push d.end bs b fit.2 up)

pub fit-close : (ls : List (List ℕ)) (i : ℕ) (bs : List LineBlock) (to : ℕ) → to ≤ length ls
    → FitTo i bs to → FitLines ls i bs
fit-close ls i [] to h fit = omega (arith, h, fit)
fit-close ls i (b ∷ bs) to h fit =
    (fit.0, fit.1, at-most b.end bs to h fit.2, fit-close ls b.end bs to h fit.2)
  where
    at-most : (j : ℕ) (ds : List LineBlock) (n : ℕ) → n ≤ length ls → FitTo j ds n
        → j ≤ length ls
    at-most j [] n k f = omega (arith, k, f)
    at-most j (d ∷ ds) n k f = let e = at-most d.end ds n k f.2 in omega (arith, e, f.0, f.1)

module _ (ls : List (List ℕ)) where
  rows-more : (i : ℕ) (bs : List LineBlock) (m n : ℕ) → FitTo i bs m → m ≤ n
      → rows_to ls i bs n ≡ rows_to ls i bs m ++ rows_with Kept (slice_range ls m n)
  rows-more i [] m n fit h =
      ap (rows_with Kept) (sym (slice-join ls i m n fit h))
      ∙ map-append _ (slice_range ls i m) (slice_range ls m n)
  rows-more i (b ∷ bs) m n fit h =
      let front = rows_with Kept (slice_range ls i b.first) in
      let block = line_rows (slice_range ls b.first b.end) (lines b.new) in
      let last = rows_with Kept (slice_range ls m n) in
      ap (λ rs. front ++ (block ++ rs)) (rows-more b.end bs m n fit.2 h)
      ∙ sym (append_assoc front (block ++ rows_to ls b.end bs m) last
      ∙ ap (λ rs. front ++ rs) (append_assoc block (rows_to ls b.end bs m) last))

  rows-push : (i : ℕ) (bs : List LineBlock) (b : LineBlock)
      → rows_to ls i (bs ++ b ∷ []) b.end
      ≡ rows_to ls i bs b.first ++ line_rows (slice_range ls b.first b.end) (lines b.new)
  rows-push i [] b =
      let none : b.end - b.end ≡ 0 = omega arith in
      let block = line_rows (slice_range ls b.first b.end) (lines b.new) in
      ap (λ n. rows_with Kept (slice_range ls i b.first)
      ++ (block ++ rows_with Kept (take n (drop b.end ls)))) none
      ∙ ap (λ rs. rows_with Kept (slice_range ls i b.first) ++ rs) (append-nil block)
  rows-push i (d ∷ bs) b =
      let front = rows_with Kept (slice_range ls i d.first) in
      let block = line_rows (slice_range ls d.first d.end) (lines d.new) in
      let last = line_rows (slice_range ls b.first b.end) (lines b.new) in
      ap (λ rs. front ++ (block ++ rs)) (rows-push d.end bs b)
      ∙ sym (append_assoc front (block ++ rows_to ls d.end bs b.first) last
      ∙ ap (λ rs. front ++ rs) (append_assoc block (rows_to ls d.end bs b.first) last))

  rows-close : (i : ℕ) (bs : List LineBlock) → rows_to ls i bs (length ls) ≡ rows_of ls i bs
  rows-close i [] = ap (rows_with Kept) (whole-slice i)
    where
      whole-slice : (j : ℕ) → slice_range ls j (length ls) ≡ drop j ls
      whole-slice j = take_rest ls j
  rows-close i (b ∷ bs) =
      ap (λ rs. rows_with Kept (slice_range ls i b.first)
      ++ (line_rows (slice_range ls b.first b.end) (lines b.new) ++ rs)) (rows-close b.end bs)

  -- lines that come next
  next-lines : (line : ℕ) (xs ys : List (List ℕ)) → line ≤ length ls → drop line ls ≡ xs ++ ys
      → (line + length xs ≤ length ls) × (drop (line + length xs) ls ≡ ys)
      × (slice_range ls line (line + length xs) ≡ xs)
  next-lines line xs ys within is =
      let n : line + length xs - line ≡ length xs = omega arith in (
        omega (arith, within, length-drop line ls, ap length is, length-append xs ys),
        sym (drop-drop (length xs) line ls) ∙ (ap (drop (length xs)) is
            ∙ drop-append_seam xs ys),
        ap (λ k. take k (drop line ls)) n ∙ (ap (take (length xs)) is
            ∙ take-append_seam xs ys),
      )

  -- ---- what is held

  -- whole lines are left out, where nothing is held
  pub skipped : (all : List Row) (c d : Collector) (gs : List (List ℕ)) (x : List ℕ)
      (ps : List Change) → AllByRecursion IsWholeLine gs → string_bytes c.before ≡ []
      → string_bytes c.after ≡ []
      → d ≡ record {
        blocks = c.blocks;
        line = c.line + length gs;
        before = c.before;
        after =
            c.after;
      }
      → Holds ls all c (flat_map (λ l. l) gs ++ x) (map kept gs ++ ps) → Holds ls all d x ps
  skipped all c d gs x ps good none none_too is h =
      let blocks = map block_view c.blocks.items in
      let next = next-lines c.line gs (lines x) h.has_lines.within
      (h.has_lines.lines ∙ (ap (λ b. lines (b ++ (flat_map (λ l. l) gs ++ x))) none
      ∙ lines-wholes gs x good)) in
      subst (λ (e : Collector). Holds ls all e x ps) (sym is) (record {
        has_lines = record {
          fit = fit-more 0 blocks c.line (c.line + length gs) (omega arith) h.has_lines.fit;
          within = next.0;
          lines = next.1 ∙ ap (λ b. lines (b ++ x)) (sym none);
        };
        rows =
            ap (λ rs. rs ++ flat_map block_rows (blocks_from
            (record { old = string_bytes c.before; new = string_bytes c.after }) ps))
            (rows-more 0 blocks c.line (c.line + length gs) h.has_lines.fit (omega arith)
            ∙ ap (λ l. rows_to ls 0 blocks c.line ++ rows_with Kept l) next.2)
            ∙ (append_assoc (rows_to ls 0 blocks c.line) (rows_with Kept gs) (flat_map block_rows
            (blocks_from
            (record { old = string_bytes c.before; new = string_bytes c.after }) ps))
            ∙ (ap (λ rs. rows_to ls 0 blocks c.line ++ rs)
            (held gs ps good none none_too) ∙ h.rows));
      })
    where
      held : (gs : List (List ℕ)) (ps : List Change) → AllByRecursion IsWholeLine gs
          → string_bytes c.before ≡ [] → string_bytes c.after ≡ []
          → rows_with Kept gs ++ flat_map block_rows (blocks_from
          (record { old = string_bytes c.before; new = string_bytes c.after }) ps)
          ≡ flat_map block_rows (blocks_from
          (record { old = string_bytes c.before; new = string_bytes c.after })
          (map kept gs ++ ps))
      held gs ps good none none_too = rw (none, none_too) (sym (rows-wholes gs ps good))

  -- what is held is a block
  pub ended : (all : List Row) (c d : Collector) (rest : List ℕ) (rows : List Row)
      (block : Block) (n : ℕ) → n ≡ length (lines (string_bytes c.before))
      → block.first ≡ c.line → block.end ≡ c.line + n
      → string_bytes block.new ≡ string_bytes c.after
      → d.blocks.items ≡ c.blocks.items ++ block ∷ [] → d.line ≡ c.line + n
      → string_bytes d.before ≡ [] → string_bytes d.after ≡ []
      → HoldsBlock ls all c rest rows → HoldsBlock ls all d rest rows
  ended all c d rest rows block n n_is first end new pushed line none none_too h =
      let blocks = map block_view c.blocks.items in
      let b = block_view block in
      let split : lines (string_bytes c.before ++ rest)
      ≡ lines (string_bytes c.before) ++ lines rest = both h.whole in
      let next = next-lines c.line (lines (string_bytes c.before)) (lines rest)
      h.has_lines.within (h.has_lines.lines ∙ split) in
      let at : c.line + n ≡ c.line + length (lines (string_bytes c.before)) =
      omega (arith, n_is) in
      let there : d.line ≡ c.line + length (lines (string_bytes c.before)) = line ∙ at in
      let stop : b.end ≡ d.line = end ∙ sym line in
      let all_blocks : map block_view d.blocks.items ≡ blocks ++ b ∷ [] =
      ap (map block_view) pushed ∙ map-append block_view c.blocks.items (block ∷ []) in
      record {
        has_lines = record {
          fit = subst (λ bs. FitTo 0 bs d.line) (sym all_blocks)
              (subst (FitTo 0 (blocks ++ b ∷ [])) stop
              (fit-push 0 blocks b (subst (FitTo 0 blocks) (sym first) h.has_lines.fit)
              (omega (arith, first, end))));
          within = omega (arith, there, next.0);
          lines = ap (λ k. drop k ls) there ∙ (next.1 ∙ ap (λ x. lines (x ++ rest)) (sym none));
        };
        whole = inl (ap is_whole none);
        all_rows =
            ap (λ x. rows_to ls 0 (map block_view d.blocks.items) d.line ++ (block_rows x ++ rows))
            (nothing none none_too)
            ∙ (ap (λ rs. rs ++ rows)
            (ap (λ bs. rows_to ls 0 bs d.line) all_blocks
            ∙ (ap (rows_to ls 0 (blocks ++ b ∷ [])) (sym stop)
            ∙ (rows-push 0 blocks b
            ∙ (ap (λ k. rows_to ls 0 blocks k ++ line_rows (slice_range ls k b.end) (lines b.new))
            first
            ∙ (ap (λ k. rows_to ls 0 blocks c.line
            ++ line_rows (slice_range ls c.line k) (lines b.new)) (end ∙ at)
            ∙ (ap (λ l. rows_to ls 0 blocks c.line ++ line_rows l (lines b.new)) next.2
            ∙ ap (λ t. rows_to ls 0 blocks c.line
            ++ line_rows (lines (string_bytes c.before)) (lines t)) new))))))
            ∙ (append_assoc (rows_to ls 0 blocks c.line)
            (line_rows (lines (string_bytes c.before)) (lines (string_bytes c.after))) rows
            ∙ h.all_rows));
      }
    where
      both : (is_whole (string_bytes c.before) ≡ true) ⊎ (rest ≡ [])
          → lines (string_bytes c.before ++ rest)
          ≡ lines (string_bytes c.before) ++ lines rest
      both (inl w) = lines-append (string_bytes c.before) rest w
      both (inr e) = rw e (ap lines (append-nil (string_bytes c.before))
          ∙ sym (append-nil (lines (string_bytes c.before))))

      nothing : string_bytes d.before ≡ [] → string_bytes d.after ≡ []
          → ◌≡◌ {A = Change}
          (record { old = string_bytes d.before; new = string_bytes d.after }) no_change
      nothing p q = rw (p, q) refl

  -- a piece ends a block
  pub piece-ends : (all : List Row) (c d : Collector) (old new rest : List ℕ) (ps : List Change)
      → d.blocks ≡ c.blocks → d.line ≡ c.line
      → string_bytes d.before ≡ string_bytes c.before ++ old
      → string_bytes d.after ≡ string_bytes c.after ++ new
      → is_whole (string_bytes d.before) ≡ true → is_whole (string_bytes d.after) ≡ true
      → Holds ls all c (old ++ rest) ((record { old = old; new = new }) ∷ ps)
      → HoldsBlock ls all d rest (flat_map block_rows (blocks_from no_change ps))
  piece-ends all c d old new rest ps blocks line before after whole whole_too h =
      let b = string_bytes c.before ++ old in
      let a = string_bytes c.after ++ new in
      let both : is_block (record { old = b; new = a }) ≡ true =
      rw (sym before, sym after, whole, whole_too) refl in
      record {
        has_lines = record {
          fit = rw (blocks, line) h.has_lines.fit;
          within = rw line h.has_lines.within;
          lines = rw (line, before) (h.has_lines.lines
              ∙ ap lines (sym (append_assoc (string_bytes c.before) old rest)));
        };
        whole = inl whole;
        all_rows =
            rw (blocks, line, before, after)
            (ap (λ t. rows_to ls 0 (map block_view c.blocks.items) c.line ++ flat_map block_rows
            (cond t ((record { old = b; new = a }) ∷ blocks_from no_change ps)
            (blocks_from (record { old = b; new = a }) ps))) (sym both)
            ∙ h.rows);
      }

  -- and nothing is held then
  pub block-ended : (all : List Row) (d : Collector) (rest : List ℕ) (ps : List Change)
      → string_bytes d.before ≡ [] → string_bytes d.after ≡ []
      → HoldsBlock ls all d rest (flat_map block_rows (blocks_from no_change ps))
      → Holds ls all d rest ps
  block-ended all d rest ps none none_too h = record {
    has_lines = h.has_lines;
    rows =
        ap (λ x. rows_to ls 0 (map block_view d.blocks.items) d.line
        ++ flat_map block_rows (blocks_from x ps)) (same_change (string_bytes d.before) []
        (string_bytes d.after) [] none none_too)
        ∙ (sym (ap (λ x. rows_to ls 0 (map block_view d.blocks.items) d.line
        ++ (block_rows x ++ flat_map block_rows (blocks_from no_change ps)))
        (same_change (string_bytes d.before) [] (string_bytes d.after) [] none none_too))
        ∙ h.all_rows);
  }

  -- the last block
  pub closing : (all : List Row) (c : Collector) → Holds ls all c [] []
      → HoldsBlock ls all c [] []
  closing all c h =
      let held = block_rows
      (record { old = string_bytes c.before; new = string_bytes c.after }) in
      record {
        has_lines = h.has_lines;
        whole = inr refl;
        all_rows =
            ap (λ rs. rows_to ls 0 (map block_view c.blocks.items) c.line ++ rs)
            (append-nil held ∙ last-rows (string_bytes c.before) (string_bytes c.after))
            ∙ h.rows;
      }

  pub closed : (all : List Row) (d : Collector) → string_bytes d.before ≡ []
      → string_bytes d.after ≡ [] → HoldsBlock ls all d [] []
      → FitLines ls 0 (map block_view d.blocks.items)
      × (rows_of ls 0 (map block_view d.blocks.items) ≡ all)
  closed all d none none_too h =
      let bs = map block_view d.blocks.items in
      let left : drop d.line ls ≡ [] =
      h.has_lines.lines ∙ ap (λ b. lines (b ++ [])) none in
      let last : length ls ≡ d.line =
      omega (arith, length-drop d.line ls, ap length left, h.has_lines.within) in (
        fit-close ls 0 bs d.line h.has_lines.within h.has_lines.fit,
        sym (rows-close 0 bs) ∙ (ap (rows_to ls 0 bs) last
            ∙ (sym (append-nil (rows_to ls 0 bs d.line))
            ∙ (ap (λ x. rows_to ls 0 bs d.line ++ (block_rows x ++ []))
            (sym (same_change (string_bytes d.before) [] (string_bytes d.after) [] none none_too))
            ∙ h.all_rows))),
      )
