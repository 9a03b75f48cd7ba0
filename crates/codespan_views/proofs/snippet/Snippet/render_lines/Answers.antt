use Rattle.codespan_core.proofs.Std.{Some, ◌≡◌, List, ◌∷◌, ◌++◌, map, Err, refl}
use Rattle.codespan_core.proofs.Std.{sym, ap, ◌∙◌, arith, err_from_is_err_and, common_steps}
use Rattle.std.specs.Slice.Iter.{iter_rest}
use Rattle.std.proofs.lemmas.List.Elements.{All-drop}
use Rattle.codespan_renderer.specs.Private.RowWriters.{row_writer_sink}
use Rattle.codespan_views.specs.Private.{RustAnnotation, IsLineOf, annotation_view, SnippetLine}
use Rattle.codespan_views.specs.Private.{lines_of, model_of}
use Rattle.codespan_views.proofs.Lines.FilledNumbers.{gap-break, gap-filled, gap-none}
use Rattle.codespan_views.proofs.Lines.Rendered.{LinesLeft, left-cut, left-first, left-more}
use Rattle.codespan_views.proofs.Lines.Rendered.{left-none, left-same}
use Rattle.codespan_views.proofs.Lines.SnippetLineViews.{IsNextGroup, later-are, later-fewer}
use Rattle.codespan_views.proofs.Lines.SnippetLineViews.{later_than, later-known, first-of, gap_of}
use Rattle.codespan_views.proofs.Lines.SnippetLineViews.{later_of, lines_left, lines_left-none}
use Rattle.codespan_views.proofs.Lines.SnippetLineViews.{shown_of, views_of-gap}
use Rattle.codespan_views.proofs.snippet.Snippet.render_lines.Given.{Over}
use Rattle.codespan_views.proofs.snippet.Snippet.render_lines.Goals.{After-lines_between-between}
use Rattle.codespan_views.proofs.snippet.Snippet.render_lines.Goals.{Joined-between-eq1}
use Rattle.codespan_views.proofs.snippet.Snippet.render_lines.Goals.{else-between-eq1+else-between-gt1}
use Rattle.codespan_views.proofs.snippet.Snippet.render_lines.Goals.{else-between-eq1+then-between-gt1+in_ok-render_break}
use Rattle.codespan_views.proofs.snippet.Snippet.render_lines.Goals.{then-between-eq1+in_ok-render_filled}
use Rattle.codespan_views.proofs.snippet.Snippet.render_lines.Goals as goal

-- the annotations of a line are counted
next : (g : Over) (c : After-lines_between-between g)
    → IsNextGroup c.loop-first.rest.now c.in-Some.first.now c.count_on_line-count.result
next g c = grind (arith, common_steps)

-- the line of an annotation is the file's
abbrev OfFile : (g : Over) (c : After-lines_between-between g)
    → RustAnnotation g.row.F-FileId.Denot → Type 0
OfFile g c = λ e. IsLineOf (model_of g.F.Files.database c.args.self.now.file) e.line

-- the shown line that is next, and those after it
abbrev after_gap : (g : Over) (c : After-lines_between-between g) → List SnippetLine
after_gap g c = shown_of c.loop-first.rest.now c.in-Some.first.now c.count_on_line-count.result
    ∷ later_of c.loop-first.rest.now c.in-Some.first.now c.count_on_line-count.result

-- they are left, after what is before that line
opens : (g : Over) (c : After-lines_between-between g)
    → lines_left c.loop-first.hidden_annotations.now c.loop-first.rest.now c.loop-first.previous
    ≡ gap_of c.loop-first.hidden_annotations.now c.loop-first.rest.now c.in-Some.first.now
    c.count_on_line-count.result c.lines_between-between.result ++ after_gap g c
opens g c =
    views_of-gap (next g c) c.loop-first.previous c.loop-first.hidden_annotations.now
    c.lines_between-between.result
    (rw (← c.in-Some.ensures.value) at c.loop-first.invariant.shown)
    c.lines_between-between.ensures.gap

pub render_filled-requires : goal.render_filled-requires
render_filled-requires g c κs = grind (arith, common_steps, left-first, opens, gap-filled)

pub render_break-requires : goal.render_break-requires
render_break-requires g c κs = grind (arith, common_steps, left-first, opens, gap-break)

pub returns-in_err-render_filled-clause-renders : goal.returns-in_err-render_filled-clause-renders
returns-in_err-render_filled-clause-renders g c =
    let place = goal.at.returns-in_err-render_filled-clause-renders g c in
    let p = err_from_is_err_and c.from_residual.result c.from_residual.ensures.1 in
    rw (p.1 ∙ ap Err p.2)
    (left-cut
    (left-first _ (opens g place.After-lines_between-between)
    (gap-filled _ _ _ _ c.if-between-eq1.true) c.loop-first.invariant.left)
    c.in_err-render_filled.ensures.renders)

pub returns-in_err-render_break-clause-renders : goal.returns-in_err-render_break-clause-renders
returns-in_err-render_break-clause-renders g c =
    let place = goal.at.returns-in_err-render_break-clause-renders g c in
    let p = err_from_is_err_and c.from_residual-in_err-render_break.result
    c.from_residual-in_err-render_break.ensures.1 in
    rw (p.1 ∙ ap Err p.2)
    (left-cut
    (left-first _ (opens g place.After-lines_between-between)
    (gap-break _ _ _ _ c.if-between-gt1.true) c.loop-first.invariant.left)
    c.in_err-render_break.ensures.renders)

-- what is before the shown line has been rendered
record GapRendered (g : Over) (c : Joined-between-eq1 g) (rest : List SnippetLine) : Type 0 where
  left : LinesLeft g.F.Files.database c.args.self.now (iter_rest c.args.buffers.now.numbers)
      (lines_of (map annotation_view c.args.annotations.now))
      (row_writer_sink g.W.WriteStyle.sink c.args.rows.now)
      (iter_rest c.if-between-eq1.buffers.numbers) rest
      (row_writer_sink g.W.WriteStyle.sink c.if-between-eq1.rows)

gap-rendered : (g : Over) (c : Joined-between-eq1 g) (rest : List SnippetLine)
    → lines_left c.loop-first.hidden_annotations.now c.loop-first.rest.now c.loop-first.previous
    ≡ gap_of c.loop-first.hidden_annotations.now c.loop-first.rest.now c.in-Some.first.now
    c.count_on_line-count.result c.lines_between-between.result ++ rest
    → GapRendered g c rest
gap-rendered g c rest is =
    let was = c.loop-first.invariant.left in
    elim c.if-between-eq1.branch [
      | then-between-eq1+in_ok-render_filled w ↦ record {
        left = rw (w.rows-is, w.buffers-is)
            (left-more
            (left-first rest is (gap-filled _ _ _ _ w.if-between-eq1.true) was)
            w.in_ok-render_filled.ensures.renders w.in_ok-render_filled.ensures.numbers);
      }
      | else-between-eq1+then-between-gt1+in_ok-render_break w ↦ record {
        left = rw (w.rows-is, w.buffers-is)
            (left-more
            (left-first rest is (gap-break _ _ _ _ w.if-between-gt1.true) was)
            w.in_ok-render_break.ensures.renders
            (ap iter_rest w.in_ok-render_break.ensures.numbers));
      }
      | else-between-eq1+else-between-gt1 w ↦ record {
        left = rw (w.rows-is, w.buffers-is)
            (left-first rest is
            (gap-none _ _ _ _ (omega (arith, w.if-between-eq1.false, w.if-between-gt1.false)))
            was);
      }
    ]

pub render_line-requires : goal.render_line-requires
render_line-requires g c κs =
    let place = goal.at.render_line-requires g c in
    let at = place.After-lines_between-between in
    let before = gap-rendered g place.Joined-between-eq1 (after_gap g at) (opens g at) in (
      (refl, (refl, tt)),
      (
        c.requires.drawn.source,
        (
          first-of (next g at) (OfFile g at) c.loop-first.invariant.lines,
          (before.left.has.fittable.0, before.left.has.in_order.0),
        ),
      ),
    )

pub returns-in_err-render_line-clause-renders : goal.returns-in_err-render_line-clause-renders
returns-in_err-render_line-clause-renders g c =
    let place = goal.at.returns-in_err-render_line-clause-renders g c in
    let at = place.After-lines_between-between in
    let before = gap-rendered g place.Joined-between-eq1 (after_gap g at) (opens g at) in
    let p = err_from_is_err_and c.from_residual-in_err-render_line.result
    c.from_residual-in_err-render_line.ensures.1 in
    rw (p.1 ∙ ap Err p.2) (left-cut before.left c.in_err-render_line.ensures.renders)

pub loop-first-smaller : goal.loop-first-smaller
loop-first-smaller g c = grind (arith, common_steps, later-fewer, next)

pub loop-first-preserved : goal.loop-first-preserved
loop-first-preserved g c =
    let place = goal.at.loop-first-preserved g c in
    let at = place.After-lines_between-between in
    let before = gap-rendered g place.Joined-between-eq1 (after_gap g at) (opens g at) in
    let line = c.in_ok-render_line.ensures in
    let skipped = c.skip_hidden-skipped.ensures in
    let n = c.count_on_line-count.result in
    let fewer = later-fewer (next g at) c.count_on_line-count.ensures.within in
    record {
      within = omega (arith, fewer, skipped.within, c.loop-first.invariant.within);
      lines =
          later-known (OfFile g at) (later_than n c.loop-first.rest.now)
          c.skip_hidden-skipped.result.1.now skipped.later
          (rw (later-are n c.loop-first.rest.now)
          (All-drop (OfFile g at) n c.loop-first.rest.now c.loop-first.invariant.lines));
      shown = skipped.shown;
      left = left-same (skipped.lines (Some c.in-Some.first.now.line.index))
          (left-more before.left line.renders (ap iter_rest line.numbers));
    }

pub returns-clause-renders : goal.returns-clause-renders
returns-clause-renders g c =
    left-none
    (left-same
    (sym (lines_left-none c.loop-first.hidden_annotations.now c.loop-first.rest.now
    c.loop-first.previous (sym c.in_default.ensures.value))) c.loop-first.invariant.left)
