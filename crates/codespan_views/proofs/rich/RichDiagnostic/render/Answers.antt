use Rattle.codespan_core.proofs.Std.{Err, rules, refl, sym, ◌∙◌, arith, nat_tests}
use contract.Lifetimes.{Lfts}
use Rattle.codespan_output.specs.OutputStreams.{context_of}
use Rattle.codespan_output.specs.RowStreams.{stream_of_rows}
use Rattle.codespan_views.specs.Private.{closing_rows}
use Rattle.codespan_views.specs.{diagnostic_of, view_config_of}
use Rattle.codespan_core.proofs.Chains.{failed-before}
use Rattle.codespan_views.proofs.Files.Collected.{failure-is, looked-up}
use Rattle.codespan_views.proofs.Labels.Indexing.{AreFiles, are-files}
use Rattle.codespan_views.proofs.Outputs.RendererRuns.{exit_is, renders_then}
use Rattle.codespan_views.proofs.Outputs.RichParts.{IsReady, bare-whole, failed-collecting}
use Rattle.codespan_views.proofs.Outputs.RichParts.{failed-in_header, failed-in_snippets}
use Rattle.codespan_views.proofs.Outputs.RichParts.{failed-looking_up, ready, rendered-whole}
use Rattle.codespan_views.proofs.rich.RichDiagnostic.render.Given.{Over}
use Rattle.codespan_views.proofs.rich.RichDiagnostic.render.Goals.{In_ok-numbers}
use Rattle.codespan_views.proofs.rich.RichDiagnostic.render.Goals as goal

-- the files are lawful
are_lawful : (g : Over) (κs : Lfts 12) → g.claim κs → (files : g.row.F.Denot)
    → AreFiles (g.F.Files.database files)
are_lawful g κs claim files =
    let laws = g.met.F.Files κs claim in
    are-files (laws.same_is_eq files) g.met.FileId.Eq.laws (laws.same_file files)
    (laws.lawful files)

-- what the header waits for has been looked up
is_ready : (g : Over) (c : In_ok-numbers g)
    → IsReady (view_config_of c.args.self.now) (g.F.Files.database c.args.files.now)
    (diagnostic_of c.args.self.now) c.in_ok-numbers.numbers.items c.look_up_early.new.collected
is_ready g c =
    let lawful = are_lawful g c.lifetimes (search rules) c.args.files.now in
    let collected = c.in_ok-collected.ensures in
    let found = c.in_ok-numbers.ensures in
    ready lawful (grind (arith, nat_tests, c.is_empty.ensures)) c.as_slice-labels.ensures.value
    collected.failed
    (looked-up lawful collected.collected collected.padding found.numbers found.padding found.loci
    found.files found.annotations)
    (sym (failure-is lawful collected.collected) ∙ found.failed)

pub render_snippets-requires : goal.render_snippets-requires
render_snippets-requires g c κs = (
  (refl, (refl, (refl, tt))),
  rw c.as_slice.ensures.value
      (is_ready g (goal.at.render_snippets-requires g c).In_ok-numbers).looked_up,
)

pub returns-in_err-render_diagnostic_header-clause-renders :
    goal.returns-in_err-render_diagnostic_header-clause-renders
returns-in_err-render_diagnostic_header-clause-renders g c =
    let header = c.in_err-render_diagnostic_header.ensures in
    rw (exit_is _ c.from_residual.ensures.1)
    (bare-whole (Err _) (are_lawful g c.lifetimes (search rules) c.args.files.now) (search rules)
    (failed-before _ header.writes) header.io)

pub returns-then-is_empty-clause-renders : goal.returns-then-is_empty-clause-renders
returns-then-is_empty-clause-renders g c =
    let d = diagnostic_of c.args.self.now in
    let run = renders_then (λ k. stream_of_rows (context_of k d.severity 0) (closing_rows d))
    c.in_ok-render_diagnostic_header.ensures c.render_closing.ensures in
    bare-whole c.render_closing.result (are_lawful g c.lifetimes (search rules) c.args.files.now)
    (search rules) run.writes run.io

pub returns-in_err-collected-clause-renders : goal.returns-in_err-collected-clause-renders
returns-in_err-collected-clause-renders g c =
    rw (exit_is _ c.from_residual-in_err-collected.ensures.1)
    (failed-collecting (are_lawful g c.lifetimes (search rules) c.args.files.now)
    (grind (arith, nat_tests, c.is_empty.ensures)) c.as_slice-labels.ensures.value
    c.in_err-collected.ensures.failed)

pub returns-in_err-numbers-clause-renders : goal.returns-in_err-numbers-clause-renders
returns-in_err-numbers-clause-renders g c =
    let lawful = are_lawful g c.lifetimes (search rules) c.args.files.now in
    rw (exit_is _ c.from_residual-in_err-numbers.ensures.1)
    (failed-looking_up lawful (grind (arith, nat_tests, c.is_empty.ensures))
    c.as_slice-labels.ensures.value c.in_ok-collected.ensures.failed
    (λ memory display. sym (failure-is lawful c.in_ok-collected.ensures.collected)
    ∙ c.in_err-numbers.ensures.failed memory display))

pub returns-in_err-render_diagnostic_header-2-clause-renders :
    goal.returns-in_err-render_diagnostic_header-2-clause-renders
returns-in_err-render_diagnostic_header-2-clause-renders g c =
    let place = goal.at.returns-in_err-render_diagnostic_header-2-clause-renders g c in
    let header = c.in_err-render_diagnostic_header-2.ensures in
    rw (exit_is _ c.from_residual-in_err-render_diagnostic_header-2.ensures.1)
    (failed-in_header _ (is_ready g place.In_ok-numbers) header.writes header.io)

pub returns-in_err-render_snippets-clause-renders :
    goal.returns-in_err-render_snippets-clause-renders
returns-in_err-render_snippets-clause-renders g c =
    let place = goal.at.returns-in_err-render_snippets-clause-renders g c in
    let header = c.in_ok-render_diagnostic_header-2.ensures in
    rw (exit_is _ c.from_residual-in_err-render_snippets.ensures.1)
    (failed-in_snippets _ (is_ready g place.In_ok-numbers) header.writes header.same.config
    c.in_err-render_snippets.ensures.renders)

pub returns-clause-renders : goal.returns-clause-renders
returns-clause-renders g c =
    let header = c.in_ok-render_diagnostic_header-2.ensures in
    let middle = c.in_ok-render_snippets.ensures in
    rendered-whole _ (is_ready g (goal.at.returns-clause-renders g c).In_ok-numbers) header.writes
    header.same.config c.render_closing-2.result middle.renders
    (middle.same.config ∙ header.same.config) c.render_closing-2.ensures.writes
    c.render_closing-2.ensures.io
