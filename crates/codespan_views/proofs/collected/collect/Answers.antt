use Rattle.codespan_core.proofs.Std.{common_steps, ◌≡◌, ◌<◌, ◌≤◌, rules, ◌+◌}
use Rattle.codespan_core.proofs.Std.{Err, length, get_or, map, ap, ◌∙◌, arith}
use Rattle.codespan_core.proofs.Std.{err_from_is_err_and, IsPermutation-map, recursion_from_All}
use Rattle.codespan_core.proofs.Std.{All-permutation, All-from_recursion, take_all}
use Rattle.codespan_core.proofs.Std.{if◌then◌else◌, ◌==◌}
use Rattle.codespan_output.specs.OutputStreams.{label_of}
use Rattle.codespan_output.specs.Snippets.{file_ids}
use Rattle.codespan_views.specs.Private.{IsOfFiles, annotation_view, RustFile, ids_view}
use Rattle.codespan_views.specs.Private.{index_of_file}
use contract.Lifetimes.{Lfts}
use Rattle.codespan_views.proofs.Labels.Collected.{AreCollected, lane-found, failure-ends}
use Rattle.codespan_views.proofs.Labels.Collected.{failure-lines, file-indexed, collected-more}
use Rattle.codespan_views.proofs.Labels.Collected.{collected-failed, lane-bound, index-inside}
use Rattle.codespan_views.proofs.Files.Indices.{first_seen-differ}
use Rattle.codespan_views.proofs.Files.InOrder.{ids-of_labels}
use Rattle.codespan_views.proofs.Labels.Indexing.{AreFiles, are-files}
use Rattle.codespan_views.proofs.Annotations.IndexedElements.{IsElementAt}
use Rattle.codespan_views.proofs.Labels.OfFiles.{before}
use Rattle.codespan_views.proofs.collected.collect.Given.{Over}
use Rattle.codespan_views.proofs.collected.collect.Goals.{In_ok-file_index, After-index_mut}
use Rattle.codespan_views.proofs.collected.collect.Goals.{After-loop-index}
use Rattle.codespan_views.proofs.collected.collect.Goals as goal

-- the files are lawful, and equal ids name one file
are_files : (g : Over) (κs : Lfts 8) → g.claim κs → (files : g.row.F.Denot)
    → AreFiles (g.F.Files.database files)
are_files g κs claim files =
    let laws = g.met.F.Files κs claim in
    are-files (laws.same_is_eq files) (search rules) (laws.same_file files) (laws.lawful files)

-- which ids are equal
equal_ids : (g : Over) (κs : Lfts 8) → g.claim κs → (files : g.row.F.Denot)
    → (g.F.Files.database files).same ≡ g.F.FileId.PartialEq.eq
equal_ids g κs claim files = (g.met.F.Files κs claim).same_is_eq files

pub get_or_insert_file-requires : goal.get_or_insert_file-requires
get_or_insert_file-requires g c = grind
    (arith, common_steps, are_files, equal_ids, ids-of_labels, first_seen-differ)

-- it is the label's turn, and the files are lawful
turn : (g : Over) (c : goal.In_ok-file_index g)
    → IsElementAt c.args.labels.now c.loop-index.index c.index-labels-index.result
turn g c = record { inside = c.loop-index-test.true; is = c.index-labels-index.is }

lawful : (g : Over) (c : goal.In_ok-file_index g)
    → AreFiles (g.F.Files.database c.args.files.now)
lawful g c = are_files g c.lifetimes (search rules) c.args.files.now

-- its file is there too
indexed : (g : Over) (c : goal.In_ok-file_index g)
    → let same = (g.F.Files.database c.args.files.now).same in
    let labels = c.args.labels.now in
    let index = c.loop-index.index in
    AreCollected (g.F.Files.database c.args.files.now) c.args.config.now
    (file_ids same (map label_of labels)) (file_ids same (before labels (index + 1)))
    (before labels index)
    c.get_or_insert_file.new.files.items c.loop-index.collected.annotations.items
    c.loop-index.collected.padding
indexed g c =
    file-indexed (lawful g c) (turn g c) c.loop-index.invariant
    (rw (equal_ids g c.lifetimes (search rules) c.args.files.now) c.in_ok-file_index.ensures.files)

-- and its index is the one that was found
found_there : (g : Over) (c : goal.In_ok-file_index g)
    → c.in_ok-file_index.file_index ≡ index_of_file (g.F.Files.database c.args.files.now).same
    (ids_view c.get_or_insert_file.new.files.items) c.index-labels-index.result.file_id
found_there g c = grind (arith, common_steps, equal_ids)

pub returns-in_err-span-clause-failed : goal.returns-in_err-span-clause-failed
returns-in_err-span-clause-failed g c =
    let all_files = are_files g c.lifetimes (search rules) c.args.files.now in
    let p = err_from_is_err_and c.from_residual-in_err-span.result
    c.from_residual-in_err-span.ensures.1 in
    rw (p.1 ∙ ap Err p.2)
    (λ known. collected-failed all_files
    (record { inside = c.loop-index-test.true; is = c.index-labels-index.is })
    c.loop-index.invariant _
    (failure-ends (g.F.Files.database c.args.files.now) c.args.config.now
    c.index-labels-index.result (c.in_err-span.ensures.failed known)))

-- its index is one of the files'
index_inside : (g : Over) (c : goal.In_ok-file_index g)
    → c.in_ok-file_index.file_index < length c.get_or_insert_file.new.files.items
index_inside g c = index-inside (lawful g c) (turn g c) (indexed g c) (found_there g c)

pub index-requires : goal.index-requires
index-requires g c = grind (arith, common_steps, index_inside)

pub returns-in_err-collect_lines-clause-failed : goal.returns-in_err-collect_lines-clause-failed
returns-in_err-collect_lines-clause-failed g c =
    let here = (goal.at.returns-in_err-collect_lines-clause-failed g c).In_ok-file_index in
    let p = err_from_is_err_and c.from_residual-in_err-collect_lines.result
    c.from_residual-in_err-collect_lines.ensures.1 in
    rw (p.1 ∙ ap Err p.2)
    (λ known. collected-failed (lawful g here) (turn g here) c.loop-index.invariant _
    (failure-lines (g.F.Files.database c.args.files.now) c.args.config.now
    c.index-labels-index.result c.in_ok-file_index.file_index c.loop-index.index
    c.index.result.now.num_multi_labels c.in_ok-span.ensures.failed
    ∙ c.in_err-collect_lines.ensures.failed known))

pub index_mut-requires : goal.index_mut-requires
index_mut-requires g c = grind (arith, common_steps, index_inside)

-- the file there, as it is read
element : (g : Over) (c : goal.In_ok-file_index g) {file : RustFile g.row.F-FileId.Denot}
    → file ≡ get_or c.get_or_insert_file.new.files.items c.in_ok-file_index.file_index file
    → IsElementAt c.get_or_insert_file.new.files.items c.in_ok-file_index.file_index file
element g c is = record { inside = index_inside g c; is = is }

-- as it is changed, once its annotations are collected
changed : (g : Over) (c : goal.After-index_mut g)
    → c.index_mut.result.now ≡ get_or c.get_or_insert_file.new.files.items
    c.in_ok-file_index.file_index c.index_mut.result.now
changed g c = grind (arith, common_steps)

pub add-requires : goal.add-requires
add-requires g c =
    let here = (goal.at.add-requires g c).In_ok-file_index in
    lane-bound (lawful g here) (turn g here) (indexed g here) (found_there g here)
    (element g here (changed g (goal.at.add-requires g c).After-index_mut))
    (omega (arith, c.loop-index.auto.index-end))

pub loop-index-preserved : goal.loop-index-preserved
loop-index-preserved g c =
    let database = g.F.Files.database c.args.files.now in
    let here = (goal.at.loop-index-preserved g c).In_ok-file_index in
    let label = c.index-labels-index.result in
    let file_index = c.in_ok-file_index.file_index in
    let lane = c.index.result.now.num_multi_labels in
    let span = c.in_ok-span.ensures in
    let found = c.in_ok-collect_lines.ensures in
    let more = collected-more (lawful g here) (turn g here) (indexed g here) (found_there g here)
    (element g here (changed g (goal.at.loop-index-preserved g c).After-index_mut))
    (lane-found (lawful g here) (turn g here) (indexed g here) (found_there g here)
    (element g here c.index.ensures))
    (rw (← c.reserve.ensures.items) found.added) found.padding
    (failure-lines database c.args.config.now label file_index c.loop-index.index lane span.failed
    ∙ found.failed)
    c.add.new.self c.add.ensures.id c.add.ensures.least_starts
    (c.add.ensures.lanes ∙ (λ i. c.index_mut.result.now.num_multi_labels
    + (if span.first i == span.last i then 0 else 1))) in
    rw c.collect_lines.ensures.files more

-- all labels are done with
all_done : (g : Over) (c : After-loop-index g)
    → length c.args.labels.now ≤ c.loop-index.index
    → let xs = map label_of c.args.labels.now in
    AreCollected (g.F.Files.database c.args.files.now) c.args.config.now
    (file_ids (g.F.Files.database c.args.files.now).same xs)
    (file_ids (g.F.Files.database c.args.files.now).same xs) xs c.loop-index.collected.files.items
    c.loop-index.collected.annotations.items c.loop-index.collected.padding
all_done g c past = grind (arith, common_steps, take_all)

pub returns-clause-collected : goal.returns-clause-collected
returns-clause-collected g c =
    let done = all_done g (goal.at.returns-clause-collected g c).After-loop-index
    c.loop-index-test.false in
    let database = g.F.Files.database c.args.files.now in
    let P = IsOfFiles database.file (file_ids database.same (map label_of c.args.labels.now)) in
    let all = c.loop-index.collected.annotations.items in
    let in_order = c.put_in_order.new.annotations.items in
    let permuted = c.put_in_order.ensures.permutation in
    record {
      files = done.labeled;
      sorted = c.in_ok-put_in_order.ensures.sorted;
      permutation =
          rw (← done.added.are, ← done.added.whole)
          (IsPermutation-map annotation_view all in_order permuted);
      lines =
          rw (ids-of_labels done.labeled) (recursion_from_All P in_order
          (All-permutation P all in_order permuted
          (All-from_recursion P all (rw done.added.whole done.added.each))));
    }
