use Rattle.codespan_core.proofs.Std.{[], ◌∷◌, ◌≡◌, ◌++◌, ◌+◌, ◌∙◌, Err, IfOk, List, Ok, ℕ}
use Rattle.codespan_core.proofs.Std.{Result, ap, arith, cond, drop, drop_all, drop_more, refl}
use Rattle.codespan_core.proofs.Std.{slice_range, string_bytes, subst, sym}
use Rattle.std.specs.Result.{is_ok}
use Rattle.std.proofs.lemmas.Slice.{pushed}
use Rattle.codespan_output.specs.FittedLines.{dots}
use Rattle.codespan_fitting.specs.declared.cut.Cut.{Cut}
use Rattle.codespan_fitting.proofs.CutLemmas.ShownTexts.{IsWritten, written-all, written-start}
use Rattle.codespan_fitting.proofs.CutLemmas.ShownTexts.{written-step}
use Rattle.codespan_fitting.proofs.cuts.write_text.Goals as goal

-- what is appended, if it is
appended : {A E : Type 0} (r : Result A E) (was ys now : List ℕ) (T : Type 0)
    → now ≡ cond (is_ok r) (was ++ ys) was → (now ≡ was ++ ys → T) → IfOk r (λ _. T)
appended (Ok x) was ys now T is next = next is
appended (Err e) was ys now T is next = tt

pub loop-cut-init : goal.loop-cut-init
loop-cut-init c =
    rw c.clear.ensures.bytes
    (written-start c.args.text.now c.args.cuts.now c.utf8.text c.requires.between)

pub loop-cut-preserved : goal.loop-cut-preserved
loop-cut-preserved c =
    let cut = c.cut-item.result in
    let rest = drop (c.loop-cut.cut-index + 1) c.args.cuts.now in
    let was = string_bytes c.loop-cut.fitted in
    let split : drop c.loop-cut.cut-index c.args.cuts.now ≡ cut ∷ rest =
    drop_more c.args.cuts.now c.loop-cut.cut-index cut c.loop-cut-test.true
    ∙ ap (λ (x : Cut). x ∷ rest) (sym c.cut-item.is) in
    let at : IsWritten c.args.text.now c.args.cuts.now c.loop-cut.read (cut ∷ rest) was =
    subst (λ (cs : List Cut). IsWritten c.args.text.now c.args.cuts.now c.loop-cut.read cs was)
    split c.loop-cut.invariant in
    let one : string_bytes c.push_str.new.self ≡ was
    ++ slice_range c.args.text.now c.loop-cut.read cut.start =
    pushed (slice_range c.args.text.now c.loop-cut.read cut.start) refl c.in_ok-push_str.was
    (rw c.range.ensures.value at c.push_str.ensures.bytes) in
    written-step c.args.text.now c.args.cuts.now c.loop-cut.read cut rest was
    (string_bytes c.push_str-in-loop-cut.new.self) at
    (pushed dots one c.in_ok-push_str-2.was c.push_str-in-loop-cut.ensures.bytes)

pub returns : goal.returns
returns c =
    let was = string_bytes c.loop-cut.fitted in
    let none : drop c.loop-cut.cut-index c.args.cuts.now ≡ [] =
    drop_all c.loop-cut.cut-index c.args.cuts.now (omega arith) in
    let at : IsWritten c.args.text.now c.args.cuts.now c.loop-cut.read [] was =
    subst (λ (cs : List Cut). IsWritten c.args.text.now c.args.cuts.now c.loop-cut.read cs was)
    none c.loop-cut.invariant in
    appended c.push_str-2.result was c.range_from.result.now (string_bytes c.push_str-2.new.self)
    _ c.push_str-2.ensures.bytes
    (λ now pieces are.
    written-all c.args.text.now c.args.cuts.now c.loop-cut.read was
    (string_bytes c.push_str-2.new.self) pieces at are
    (now ∙ ap (λ ys. was ++ ys) c.range_from.ensures.value))
