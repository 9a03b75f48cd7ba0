use Rattle.codespan_core.proofs.Std.{◌∙◌, ◌++◌, ◌∷◌, ap, sym, subst, refl, arith, map, flat_map}
use Rattle.codespan_core.proofs.Std.{append_assoc, map-append, ℕ, length, string_bytes}
use Rattle.codespan_core.proofs.Std.{◌≡◌, ◌+◌, ◌-◌, AllByRecursion, take, get_or}
use Rattle.codespan_edits.specs.Diffs.{kept, lines, is_whole}
use Rattle.codespan_edits.specs.Private.Blocks.{Holds}
use Rattle.codespan_edits.specs.declared.blocks.Collector.{Collector}
use Rattle.codespan_edits.proofs.BlockLemmas.{skipped}
use Rattle.codespan_edits.proofs.CutLast.{IsWholeLine, cut-last, last-is, first-line, whole-after}
use Rattle.codespan_edits.proofs.CutLemmas.{start-boundary}
use Rattle.codespan_edits.proofs.blocks.Collector.keep_lines.Goals as goal

from-zero : (n : ℕ) → n - 0 ≡ n
from-zero n = omega arith

same-but-line : (c : Collector) (m n : ℕ) → m ≡ n
    → ◌≡◌ {A = Collector}
    (record { blocks = c.blocks; line = m; before = c.before; after = c.after })
    (record { blocks = c.blocks; line = n; before = c.before; after = c.after })
same-but-line c m n is = rw is refl

pub range-line-requires-clause-end_boundary : goal.range-line-requires-clause-end_boundary
range-line-requires-clause-end_boundary c =
    start-boundary c.args.text.now c.args.starts.now 1 _ c.utf8.text c.requires
    (omega (arith, c.if-starts-lt2.false)) refl

-- the first line is a piece, and the others are left out
pub returns-clause-holds : goal.returns-clause-holds
returns-clause-holds c = λ ls all rest ps last is h.
    let text = c.args.text.now in
    let cut = cut-last 0 text in
    let first = first-line text c.args.starts.now c.requires (omega (arith, c.if-starts-lt2.false))
    in
    let line : c.range-line.result.now ≡ first.line =
    c.range-line.ensures.value ∙ (ap (λ k. take k text) (from-zero (get_or c.args.starts.now 1 0))
    ∙ first.take_is) in
    let last_is : last ≡ cut.last = is ∙ last-is text c.args.starts.now c.requires in
    let good = subst (AllByRecursion IsWholeLine) first.wholes cut.all in
    let text_is : text ++ rest ≡ first.line ++ (flat_map (λ l. l) first.more ++ (last ++ rest)) =
    ap (λ t. t ++ rest) (cut.parts ∙ ap (λ ws. flat_map (λ l. l) ws ++ cut.last) first.wholes)
    ∙ (append_assoc (first.line ++ flat_map (λ l. l) first.more) cut.last rest
    ∙ (append_assoc first.line (flat_map (λ l. l) first.more) (cut.last ++ rest)
    ∙ ap (λ l. first.line ++ (flat_map (λ l. l) first.more ++ (l ++ rest))) (sym last_is))) in
    let pieces : map kept (lines text) ++ ps
    ≡ kept first.line ∷ (map kept first.more ++ (map kept (lines last) ++ ps)) =
    ap (λ ls. map kept ls ++ ps) (cut.lines_are ∙ ap (λ ws. ws ++ lines cut.last) first.wholes)
    ∙ (ap (λ xs. kept first.line ∷ (xs ++ ps)) (map-append kept first.more (lines cut.last))
    ∙ (ap (λ xs. kept first.line ∷ xs)
    (append_assoc (map kept first.more) (map kept (lines cut.last)) ps)
    ∙ ap (λ l. kept first.line ∷ (map kept first.more ++ (map kept (lines l) ++ ps)))
    (sym last_is))) in
    let here : Holds ls all c.args.self.now
    (c.range-line.result.now ++ (flat_map (λ l. l) first.more ++ (last ++ rest)))
    (kept c.range-line.result.now ∷ (map kept first.more ++ (map kept (lines last) ++ ps))) =
    subst
    (λ l. Holds ls all c.args.self.now (l ++ (flat_map (λ l. l) first.more ++ (last ++ rest)))
    (kept l ∷ (map kept first.more ++ (map kept (lines last) ++ ps)))) (sym line)
    (subst
    (Holds ls all c.args.self.now
    (first.line ++ (flat_map (λ l. l) first.more ++ (last ++ rest)))) pieces
    (subst (λ t. Holds ls all c.args.self.now t (map kept (lines text) ++ ps)) text_is h)) in
    let none = c.in_ok-push.ensures.ended
    (ap (λ l. is_whole (string_bytes c.args.self.now.before ++ l)) line
    ∙ whole-after (string_bytes c.args.self.now.before) first.line good.0)
    (ap (λ l. is_whole (string_bytes c.args.self.now.after ++ l)) line
    ∙ whole-after (string_bytes c.args.self.now.after) first.line good.0) in
    skipped ls all c.push.new.self (record {
      blocks = c.push.new.self.blocks;
      line = c.in_ok-self.field-0;
      before = c.push.new.self.before;
      after = c.push.new.self.after;
    }) first.more (last ++ rest) (map kept (lines last) ++ ps) good.1 none.0 none.1
    (same-but-line c.push.new.self c.in_ok-self.field-0
    (c.push.new.self.line + length first.more)
    (omega (arith, c.in_ok-self.ensures.sum, first.count)))
    (c.in_ok-push.ensures.holds ls all (flat_map (λ l. l) first.more ++ (last ++ rest))
    (map kept first.more ++ (map kept (lines last) ++ ps)) here)
