use Rattle.codespan_core.proofs.Std.{get_or, sym, arith, common_steps, ltb-false, length-map}
use Rattle.codespan_core.proofs.Std.{ltb-true}
use Rattle.std.proofs.lemmas.List.Sums.{prefix_len-le-length}
use Rattle.codespan_views.specs.Private.{ids_view}
use Rattle.codespan_views.proofs.Files.Indices.{same_id-index}
use Rattle.codespan_views.proofs.Files.InOrder.{index-first, index-later, is-id}
use Rattle.codespan_views.proofs.Annotations.IndexedElements.{IsElementAt}
use Rattle.codespan_views.proofs.labeled_files.find_file.Given.{Over}
use Rattle.codespan_views.proofs.labeled_files.find_file.Goals.{After-index-files-index}
use Rattle.codespan_views.proofs.labeled_files.find_file.Goals.{In-Some-get}
use Rattle.codespan_views.proofs.labeled_files.find_file.Goals as goal

-- the file of the label before has the id
pub returns : goal.returns
returns g c =
    let found = c.in-Some.ensures.lookup in
    same_id-index g.FileId.PartialEq.eq g.met.FileId.Eq.laws (ids_view c.args.files.now)
    c.in-Some.file.now.file_id c.args.id c.requires
    (is-id (record { inside = ltb-true _ _ (sym found.0); is = found.1 })) (sym c.if-eq.ensures)

-- the file at the index of the loop
here : (g : Over) (c : After-index-files-index g)
    → IsElementAt c.args.files.now c.loop-index.index
    (get_or c.args.files.now c.loop-index.index c.index-files-index.result)
here g c = grind (arith, common_steps)

pub returns-then-eq-2 : goal.returns-then-eq-2
returns-then-eq-2 g c = grind (arith, common_steps, index-first, here)

pub loop-index-preserved : goal.loop-index-preserved
loop-index-preserved g c = grind (arith, common_steps, index-later, here)

pub returns-then-is_next : goal.returns-then-is_next
returns-then-is_next g c = grind (arith, common_steps, index-later, here, index-first)

-- the last file
last : (g : Over) (c : In-Some-get g)
    → IsElementAt c.args.files.now c.loop-index.index c.in-Some-get.file.now
last g c = grind (arith, common_steps, ltb-true)

pub returns-in-Some-get : goal.returns-in-Some-get
returns-in-Some-get g c = grind (arith, common_steps, index-first, last)

pub returns-in_default : goal.returns-in_default
returns-in_default g c = grind (arith, common_steps, last, prefix_len-le-length, length-map)

pub returns-in_default-2 : goal.returns-in_default-2
returns-in_default-2 g c = grind (arith, common_steps, ltb-false, prefix_len-le-length, length-map)
