use Rattle.codespan_core.proofs.Std.{◌≡◌, ◌==◌, ◌+◌, ◌||◌, not, rules, List, []}
use Rattle.codespan_core.proofs.Std.{◌∷◌, length, map, Ok, Err, refl, sym, ap, ◌∙◌}
use Rattle.codespan_core.proofs.Std.{arith, nat_lt, true, false, Bool, ne_eqb, common_steps}
use Rattle.codespan_output.specs.OutputStreams.{labels_of, notes_of}
use Rattle.codespan_output.specs.Snippets.{labeled_file_model}
use Rattle.codespan_views.specs.Private.{annotation_view, lines_of}
use Rattle.codespan_views.specs.{diagnostic_of, view_config_of}
use Rattle.codespan_views.proofs.Files.Collected.{IsFileOfLabels, file-at}
use Rattle.codespan_views.proofs.Files.Lengths.{rest-sorted}
use Rattle.codespan_views.proofs.Files.Slices.{from_file-first, next_slice}
use Rattle.codespan_views.proofs.Files.Turns.{IsAtFile, next_inside, next_left, own_lines}
use Rattle.codespan_views.proofs.Files.Turns.{own_snippet_lines}
use Rattle.codespan_views.proofs.Annotations.IndexedElements.{element-equal}
use Rattle.codespan_views.proofs.Labels.Indexing.{are-files}
use Rattle.codespan_views.proofs.Errors.LookupRuns.{left_after, left_cut, run_failed, run_of_writes}
use Rattle.codespan_views.proofs.Outputs.RendererRuns.{exit_is, rows-rendered}
use Rattle.codespan_views.proofs.Outputs.SnippetsRendered.{left-end, left-lines, left-parts}
use Rattle.codespan_views.proofs.Outputs.SnippetsRendered.{left-row, left-source, left-start}
use Rattle.codespan_views.proofs.Outputs.SnippetsRendered.{own-numbers, own-taken}
use Rattle.codespan_views.proofs.rich.RichDiagnostic.render_snippets.Given.{Over}
use Rattle.codespan_views.proofs.rich.RichDiagnostic.render_snippets.Goals.{After-deref-in-loop-index}
use Rattle.codespan_views.proofs.rich.RichDiagnostic.render_snippets.Goals.{Joined-notes_follow}
use Rattle.codespan_views.proofs.Files.InOrder.{ids-of_labels}
use Rattle.codespan_output.specs.Private.LineRows.{has_any}
use Rattle.codespan_views.proofs.rich.RichDiagnostic.render_snippets.Goals as goal

-- there is an element where there is one that is mapped
any-mapped : {X Y : Type 0} (h : X → Y) (xs : List X)
    → not (length xs == 0) ≡ has_any (map h xs)
any-mapped h [] = refl
any-mapped h (x ∷ xs) = ap not (ne_eqb (length (x ∷ xs)) 0 (λ e. absurd (omega (arith, e))))

pub loop-index-init : goal.loop-index-init
loop-index-init g c = record {
  inside = omega arith;
  left = from_file-first (map annotation_view c.args.collected.now.annotations.items);
  numbers = rw (ids-of_labels c.requires.collected_is.files)
      (c.new-buffers.ensures.numbers ∙ c.requires.numbers_are);
  rendered = left-start c.requires;
}

pub count_in_file-len-requires : goal.count_in_file-len-requires
count_in_file-len-requires g c =
    rw c.deref.ensures.value
    (rest-sorted _ c.loop-index.start c.requires.collected_is.sorted)

-- the loop is at a file, whose annotations are counted
turn : (g : Over) (c : After-deref-in-loop-index g)
    → IsAtFile c.args.collected.now.files.items c.args.collected.now.annotations.items
    c.loop-index.start c.count_in_file-len.result c.loop-index.index c.labeled-item.result
turn g c =
    let counted = rw c.deref.ensures.value at c.count_in_file-len.ensures.value in
    let within = rw c.deref.ensures.value at c.count_in_file-len.ensures.within in
    search (rules, element-equal)

-- it is the file of its labels
own-file : (g : Over) (c : After-deref-in-loop-index g)
    → let database = g.F.Files.database c.args.files.now in
    IsFileOfLabels (view_config_of c.args.self.now)
    (labeled_file_model database.same database.file (labels_of (diagnostic_of c.args.self.now))
    c.labeled-item.result.file_id) c.labeled-item.result
    (lines_of (map annotation_view
    (next_slice c.deref-in-loop-index.result.now c.loop-index.start c.count_in_file-len.result)))
own-file g c =
    let laws = g.met.F.Files c.lifetimes (search rules) in
    let files = c.args.files.now in
    file-at
    (are-files (laws.same_is_eq files) g.met.FileId.Eq.laws (laws.same_file files)
    (laws.lawful files)) c.requires.collected_is (turn g c).here
    (own_snippet_lines (turn g c) c.deref-in-loop-index.ensures.value)

pub returns-in_err-source-clause-renders : goal.returns-in_err-source-clause-renders
returns-in_err-source-clause-renders g c =
    let place = (goal.at.returns-in_err-source-clause-renders g c).After-deref-in-loop-index in
    let was = c.loop-index.invariant in
    rw (exit_is _ c.from_residual.ensures.1)
    (search (
      rules,
      rows-rendered,
      left_cut _ _ (run_failed {a = []} c.in_err-source.ensures.failed)
          (left-parts was.rendered (turn g place).here (own-file g place) was.numbers),
    ))

pub render_lines-requires : goal.render_lines-requires
render_lines-requires g c κs =
    let place = (goal.at.render_lines-requires g c).After-deref-in-loop-index in
    let own = own-file g place in
    let was = c.loop-index.invariant in
    let lines = own_lines (turn g place) c.deref-in-loop-index.ensures.value
    (g.F.Files.database c.args.files.now).file c.requires.collected_is.lines in
    let in_order = rw (sym own.lanes_are) at own.lines_are.in_order in
    let fittable = rw (sym own.lanes_are) at own.lines_are.fittable in
    let numbers = own-numbers was.rendered (turn g place).here own was.numbers in
    ((refl, (refl, tt)), (lines, search rules))

pub returns-in_err-render_first_rows-clause-renders :
    goal.returns-in_err-render_first_rows-clause-renders
returns-in_err-render_first_rows-clause-renders g c =
    let places = goal.at.returns-in_err-render_first_rows-clause-renders g c in
    let place = places.After-deref-in-loop-index in
    let was = c.loop-index.invariant in
    let first = c.in_err-render_first_rows.ensures in
    rw (exit_is _ c.from_residual-in_err-render_first_rows.ensures.1)
    (rows-rendered g.W.WriteStyle.sink _ c.new-rows.result c.render_first_rows.new.rows
    c.max_width-max_width.ensures c.context-context.ensures c.new-rows.ensures.reference
    c.new-rows.ensures.writer
    (left_cut _ _ (run_of_writes (Err _) first.writes first.io)
    (left-source was.rendered (turn g place).here (own-file g place) was.numbers
    c.in_ok-source.ensures.failed)) (search rules))

pub returns-in_err-render_lines-clause-renders : goal.returns-in_err-render_lines-clause-renders
returns-in_err-render_lines-clause-renders g c =
    let places = goal.at.returns-in_err-render_lines-clause-renders g c in
    let place = places.After-deref-in-loop-index in
    let was = c.loop-index.invariant in
    rw (exit_is _ c.from_residual-in_err-render_lines.ensures.1)
    (search (
      rules,
      rows-rendered,
      left_cut _ _ c.in_err-render_lines.ensures.renders.rendered
          (left-lines was.rendered (turn g place).here (own-file g place) was.numbers
          c.in_ok-source.ensures.failed c.in_ok-render_first_rows.ensures.writes),
    ))

-- notes or another file follow the snippet
followed : (g : Over) (c : Joined-notes_follow g)
    → c.if-notes_follow.is_followed
    ≡ (has_any (notes_of (diagnostic_of c.args.self.now))
    || nat_lt (c.loop-index.index + 1) (length c.args.collected.now.files.items))
followed g c = grind (arith, common_steps, any-mapped)

pub returns-in_err-render_empty_row-clause-renders :
    goal.returns-in_err-render_empty_row-clause-renders
returns-in_err-render_empty_row-clause-renders g c =
    let places = goal.at.returns-in_err-render_empty_row-clause-renders g c in
    let at = turn g places.After-deref-in-loop-index in
    let own = own-file g places.After-deref-in-loop-index in
    let was = c.loop-index.invariant in
    let row = c.in_err-render_empty_row.ensures in
    rw (exit_is _ c.from_residual-in_err-render_empty_row.ensures.1)
    (rows-rendered g.W.WriteStyle.sink _ c.new-rows.result c.render_empty_row.new.rows
    c.max_width-max_width.ensures c.context-context.ensures c.new-rows.ensures.reference
    c.new-rows.ensures.writer
    (left_cut _ _ (run_of_writes (Err _) row.writes row.io)
    (left-row was.rendered at.here own was.numbers c.in_ok-source.ensures.failed
    c.in_ok-render_first_rows.ensures.writes true
    (sym c.if-is_followed.true ∙ followed g places.Joined-notes_follow)
    c.in_ok-render_lines.ensures.renders.rendered)) (search rules))

pub loop-index-preserved : goal.loop-index-preserved
loop-index-preserved g c =
    let places = goal.at.loop-index-preserved g c in
    let at = turn g places.After-deref-in-loop-index in
    let own = own-file g places.After-deref-in-loop-index in
    let was = c.loop-index.invariant in
    let lines = c.in_ok-render_lines.ensures in
    let rest = λ (b : Bool) (is : c.if-notes_follow.is_followed ≡ b).
    left-row was.rendered at.here own was.numbers c.in_ok-source.ensures.failed
    c.in_ok-render_first_rows.ensures.writes b
    (sym is ∙ followed g places.Joined-notes_follow) lines.renders.rendered in
    record {
      inside = next_inside at;
      left = next_left at;
      numbers = own-taken was.rendered at.here own was.numbers lines.numbers;
      rendered = record {
        left = elim c.if-is_followed.branch [
          | goal.then-is_followed+in_ok-render_empty_row w ↦ rw w.rows-is
              (left_after _ _ (run_of_writes (Ok tt) w.in_ok-render_empty_row.ensures.writes tt)
              (rest true w.if-is_followed.true))
          | goal.else-is_followed w ↦ rw w.rows-is (rest false w.if-is_followed.false)
        ];
      };
    }

pub returns-clause-renders : goal.returns-clause-renders
returns-clause-renders g c =
    search (
      rules,
      rows-rendered,
      left-end c.loop-index.invariant.rendered c.deref-labeled-items.ensures.value
          c.loop-index-test.false,
    )
