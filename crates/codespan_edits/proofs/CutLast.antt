-- A text cut after its last newline, for the clauses of `blocks`.
use Rattle.codespan_core.proofs.Std.{◌≡◌, ◌≤◌, ◌+◌, ◌-◌, ◌++◌, ◌∷◌, ◌∙◌, []}
use Rattle.codespan_core.proofs.Std.{ℕ, suc, List, length, Bool, true, false, cond, refl, ap}
use Rattle.codespan_core.proofs.Std.{sym, subst, take, drop, map, arith, append_assoc}
use Rattle.codespan_core.proofs.Std.{◌⊎◌, inl}
use Rattle.codespan_core.proofs.Std.{inr, ◌==◌, flat_map, get_or, AllByRecursion}
use Rattle.codespan_core.proofs.Std.{take-append_seam, true≢false}
use Rattle.std.proofs.Math.Seq.{drop-append_seam}
use Rattle.codespan_core.specs.Lines.{starts_after, line_starts_of}
use Rattle.codespan_edits.specs.Diffs.{byte_before, lines, is_whole, Change, kept, no_change}
use Rattle.codespan_edits.specs.Diffs.{block_rows, blocks_from, rows_with}
use Rattle.codespan_edits.specs.declared.rows.RowSign.TheVariants.{Kept}
use Rattle.codespan_edits.proofs.LineLemmas.{lines-append}
use Rattle.codespan_edits.proofs.KeptLines.{kept-line}

-- ---- a text, cut after its last newline

-- a line that ends with a newline
pub record IsWholeLine (l : List ℕ) : Type 0 where
  pub line : lines l ≡ l ∷ []
  pub whole : is_whole l ≡ true

-- what follows the last newline
abbrev pub IsLast : List ℕ → Type 0
IsLast l = (l ≡ []) ⊎ ((lines l ≡ l ∷ []) × (is_whole l ≡ false))

-- the lines with a newline, and what follows them, by the starts of lines
pub record CutLast (i : ℕ) (bs : List ℕ) : Type 0 where
  pub wholes : List (List ℕ)
  pub last : List ℕ
  pub parts : bs ≡ flat_map (λ l. l) wholes ++ last
  pub lines_are : lines bs ≡ wholes ++ lines last
  pub count : length wholes ≡ length (starts_after i bs)
  pub all : AllByRecursion IsWholeLine wholes
  pub is_last : IsLast last
  pub at : get_or (i ∷ starts_after i bs) (length (starts_after i bs)) 0
      ≡ i + length (flat_map (λ l. l) wholes)
  pub first : (g : List ℕ) (gs : List (List ℕ)) → wholes ≡ g ∷ gs
      → get_or (starts_after i bs) 0 0 ≡ i + length g

not-none : ◌≡◌ {A = List (List ℕ)} [] ([] ∷ []) → ⊥
not-none h = cc

-- a byte before a line that ends with a newline
more-whole : (b : ℕ) (g : List ℕ) → (b == 10) ≡ false → IsWholeLine g → IsWholeLine (b ∷ g)
more-whole b [] other is = absurd (not-none is.line)
more-whole b (x ∷ g) other is = record {
  line = rw other (ap (byte_before b) is.line);
  whole = is.whole;
}

more-last : (b : ℕ) (l : List ℕ) → (b == 10) ≡ false → IsLast l → IsLast (b ∷ l)
more-last b l other (inl none) =
    rw none (inr (ap (λ t. cond t ((b ∷ []) ∷ []) ((b ∷ []) ∷ [])) other, other))
more-last b [] other (inr is) = absurd (true≢false is.1)
more-last b (x ∷ l) other (inr is) = inr (rw other (ap (byte_before b) is.0), is.1)

-- one more byte before a text that is cut
cut-more : (i b : ℕ) (bs : List ℕ) (t : Bool) → (b == 10) ≡ t → CutLast (i + 1) bs
    → CutLast i (b ∷ bs)
cut-more i b bs true is c = record {
  wholes = (b ∷ []) ∷ c.wholes;
  last = c.last;
  parts = ap (λ xs. b ∷ xs) c.parts;
  lines_are = rw is (ap (λ ls. (b ∷ []) ∷ ls) c.lines_are);
  count = rw is (ap suc c.count);
  all = (record { line = rw is refl; whole = is }, c.all);
  is_last = c.is_last;
  at = rw is (c.at ∙ omega arith);
  first = λ g gs h. rw is (let e : b ∷ [] ≡ g = cc (h) in omega (arith, ap length e));
}
cut-more i b bs false is c = by c.wholes refl where
  by : (ws : List (List ℕ)) → c.wholes ≡ ws → CutLast i (b ∷ bs)
  by [] none =
      let no_starts : length (starts_after (i + 1) bs) ≡ 0 = sym c.count ∙ ap length none in
      let rest : bs ≡ c.last = c.parts ∙ ap (λ ws. flat_map (λ l. l) ws ++ c.last) none in
      record {
        wholes = [];
        last = b ∷ bs;
        parts = refl;
        lines_are = refl;
        count = rw is (sym no_starts);
        all = tt;
        is_last = more-last b bs is (subst IsLast (sym rest) c.is_last);
        at = rw is (ap (λ n. get_or (i ∷ starts_after (i + 1) bs) n 0) no_starts ∙ omega arith);
        first = λ g gs h. absurd (cc);
      }
  by (w ∷ ws) some =
      let size : length (starts_after (i + 1) bs) ≡ suc (length ws) =
      sym c.count ∙ ap length some in
      let all_is = subst (AllByRecursion IsWholeLine) some c.all in
      record {
        wholes = (b ∷ w) ∷ ws;
        last = c.last;
        parts = ap (λ xs. b ∷ xs)
            (c.parts ∙ ap (λ vs. flat_map (λ l. l) vs ++ c.last) some);
        lines_are = rw is (ap (byte_before b)
            (c.lines_are ∙ ap (λ vs. vs ++ lines c.last) some));
        count = rw is (sym size);
        all = (more-whole b w is all_is.0, all_is.1);
        is_last = c.is_last;
        at = rw is (ap (λ n. get_or (i ∷ starts_after (i + 1) bs) n 0) size
            ∙ (sym (ap (λ n. get_or ((i + 1) ∷ starts_after (i + 1) bs) n 0) size)
            ∙ (c.at ∙ (ap (λ vs. i + 1 + length (flat_map (λ l. l) vs)) some ∙ omega arith))));
        first = λ g gs h. rw is (let e : b ∷ w ≡ g = cc (h) in
            c.first w ws some ∙ omega (arith, ap length e));
      }

pub cut-last : (i : ℕ) (bs : List ℕ) → CutLast i bs
cut-last i [] = record {
  wholes = [];
  last = [];
  parts = refl;
  lines_are = refl;
  count = refl;
  all = tt;
  is_last = inl refl;
  at = omega arith;
  first = λ g gs h. absurd (cc);
}
cut-last i (b ∷ bs) = cut-more i b bs (b == 10) refl (cut-last (i + 1) bs)

-- lines with a newline before a text
pub lines-wholes : (gs : List (List ℕ)) (x : List ℕ) → AllByRecursion IsWholeLine gs
    → lines (flat_map (λ l. l) gs ++ x) ≡ gs ++ lines x
lines-wholes [] x all = refl
lines-wholes (g ∷ gs) x all =
    ap lines (append_assoc g (flat_map (λ l. l) gs) x)
    ∙ (lines-append g (flat_map (λ l. l) gs ++ x) (all.0).whole
    ∙ (ap (λ ls. ls ++ lines (flat_map (λ l. l) gs ++ x)) (all.0).line
    ∙ ap (λ ls. g ∷ ls) (lines-wholes gs x all.1)))

-- their rows, where nothing is held
pub rows-wholes : (gs : List (List ℕ)) (ps : List Change) → AllByRecursion IsWholeLine gs
    → flat_map block_rows (blocks_from no_change (map kept gs ++ ps))
    ≡ rows_with Kept gs ++ flat_map block_rows (blocks_from no_change ps)
rows-wholes [] ps all = refl
rows-wholes (g ∷ gs) ps all =
    sym (kept-line [] ((record { sign = Kept; line = g }) ∷ []) [] [] g (map kept gs ++ ps) refl
    refl (all.0).whole (all.0).line refl)
    ∙ ap (λ rs. (record { sign = Kept; line = g }) ∷ rs) (rows-wholes gs ps all.1)

-- a text that ends with one ends with a newline
pub whole-after : (x g : List ℕ) → IsWholeLine g → is_whole (x ++ g) ≡ true
whole-after [] g is = is.whole
whole-after (b ∷ []) [] is = absurd (not-none is.line)
whole-after (b ∷ []) (y ∷ g) is = is.whole
whole-after (b ∷ (d ∷ x)) g is = whole-after (d ∷ x) g is

-- ---- the lines of a kept text

-- by the starts of its lines
module _ (text starts : List ℕ) (is : starts ≡ line_starts_of text) where
  pub last-is : drop (get_or starts (length starts - 1) 0) text ≡ (cut-last 0 text).last
  last-is =
      let c = cut-last 0 text in
      let size : length starts - 1 ≡ length (starts_after 0 text) =
      omega (arith, ap length is) in
      ap (λ k. drop k text) (ap (λ xs. get_or xs (length starts - 1) 0) is
      ∙ (ap (λ n. get_or (0 ∷ starts_after 0 text) n 0) size ∙ (c.at ∙ omega arith)))
      ∙ (ap (drop (length (flat_map (λ l. l) c.wholes))) c.parts
      ∙ drop-append_seam (flat_map (λ l. l) c.wholes) c.last)

  -- the first one, and those that follow and have a newline
  pub record FirstLine : Type 0 where
    pub line : List ℕ
    pub more : List (List ℕ)
    pub wholes : (cut-last 0 text).wholes ≡ line ∷ more
    pub take_is : take (get_or starts 1 0) text ≡ line
    pub count : length more ≡ length starts - 2

  pub first-line : 2 ≤ length starts → FirstLine
  first-line two = by (cut-last 0 text).wholes refl where
    size : length starts ≡ length (starts_after 0 text) + 1
    size = omega (arith, ap length is)

    by : (ws : List (List ℕ)) → (cut-last 0 text).wholes ≡ ws → FirstLine
    by [] none = absurd (omega (arith, two, size, (cut-last 0 text).count, ap length none))
    by (w ∷ ws) some =
        let c = cut-last 0 text in record {
          line = w;
          more = ws;
          wholes = some;
          take_is =
              ap (λ k. take k text) (ap (λ xs. get_or xs 1 0) is
              ∙ (c.first w ws some ∙ omega arith))
              ∙ (ap (take (length w)) (c.parts
              ∙ (ap (λ vs. flat_map (λ l. l) vs ++ c.last) some
              ∙ append_assoc w (flat_map (λ l. l) ws) c.last))
              ∙ take-append_seam w (flat_map (λ l. l) ws ++ c.last));
          count = omega (arith, size, c.count, ap length some);
        }
