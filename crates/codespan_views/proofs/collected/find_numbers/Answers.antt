use Rattle.codespan_core.proofs.Std.{◌≡◌, Err, refl, ap, ◌∙◌, arith, common_steps}
use Rattle.codespan_core.proofs.Std.{err_from_is_err_and}
use Rattle.std.proofs.Common.{Vec, Global}
use Rattle.codespan_views.specs.Private.{RustAnnotation}
use Rattle.codespan_views.proofs.Files.Lengths.{rest-sorted}
use Rattle.codespan_views.proofs.Files.Slices.{from_file-first}
use Rattle.codespan_views.proofs.Files.Turns.{IsAtFile, next_inside, next_left, own_lines}
use Rattle.codespan_views.proofs.Files.Turns.{own_snippet_lines}
use Rattle.codespan_views.proofs.Lines.NumbersFound.{files-failed, files-more}
use Rattle.codespan_views.proofs.collected.find_numbers.Given.{Over}
use Rattle.codespan_views.proofs.collected.find_numbers.Goals.{After-count_in_file-len}
use Rattle.codespan_views.proofs.collected.find_numbers.Goals as goal

pub loop-index-init : goal.loop-index-init
loop-index-init g c = grind (arith, common_steps, from_file-first)

-- the annotations that are lent
items_are : (g : Over)
    → {xs ys : Vec (RustAnnotation g.row.F-FileId.Denot) Global} → xs ≡ ys
    → xs.items ≡ ys.items
items_are g is = ap (λ x. x.items) is

-- the loop is at a file, whose annotations are counted
turn : (g : Over) (c : After-count_in_file-len g)
    → IsAtFile c.args.collected.now.files.items c.args.collected.now.annotations.items
    c.loop-index.start c.count_in_file-len.result c.loop-index.index c.labeled-item.result
turn g c = grind (arith, common_steps, items_are)

pub count_in_file-len-requires : goal.count_in_file-len-requires
count_in_file-len-requires g c =
    rw (c.deref.ensures.value ∙ items_are g c.loop-index.invariant.annotations)
    (rest-sorted c.args.collected.now.annotations.items c.loop-index.start c.requires.sorted)

pub find_numbers_of_file-requires : goal.find_numbers_of_file-requires
find_numbers_of_file-requires g c κs = (
  (refl, tt),
  own_lines (turn g (goal.at.find_numbers_of_file-requires g c).After-count_in_file-len)
      (c.deref-in-loop-index.ensures.value ∙ items_are g c.loop-index.invariant.annotations)
      (g.F.Files.database c.args.files.now).file
      c.requires.lines,
)

pub returns-in_err-find_numbers_of_file-clause-failed :
    goal.returns-in_err-find_numbers_of_file-clause-failed
returns-in_err-find_numbers_of_file-clause-failed g c =
    let at = turn g
    (goal.at.returns-in_err-find_numbers_of_file-clause-failed g c).After-count_in_file-len in
    let p = err_from_is_err_and c.from_residual.result c.from_residual.ensures.1 in
    rw (p.1 ∙ ap Err p.2)
    (λ memory. files-failed at.here (own_snippet_lines at
    (c.deref-in-loop-index.ensures.value ∙ items_are g c.loop-index.invariant.annotations))
    c.loop-index.invariant.files_left (c.in_err-find_numbers_of_file.ensures.failed memory))

pub loop-index-preserved : goal.loop-index-preserved
loop-index-preserved g c =
    let at = turn g (goal.at.loop-index-preserved g c).After-count_in_file-len in
    record {
      inside = next_inside at;
      left = next_left at;
      files_left =
          files-more at.here (own_snippet_lines at
          (c.deref-in-loop-index.ensures.value ∙ items_are g c.loop-index.invariant.annotations))
          c.loop-index.invariant.files_left
          c.in_ok-find_numbers_of_file.ensures.numbers c.in_ok-find_numbers_of_file.ensures.padding
          c.in_ok-find_numbers_of_file.ensures.failed;
      files = refl;
      annotations = c.loop-index.invariant.annotations;
    }
