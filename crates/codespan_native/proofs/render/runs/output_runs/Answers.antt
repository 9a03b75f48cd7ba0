use Rattle.codespan_native.proofs.Rendered.{output_runs}
use Rattle.codespan_native.specs.SourceModel.{native_file_views}
use Rattle.codespan_native.proofs.render.runs.output_runs.Goals as goal

pub returns-in-Ok : goal.returns-in-Ok
returns-in-Ok c =
    output_runs c.args.config.now (native_file_views c.args.files.now) c.args.diagnostic.now
    c.in-Ok.ensures.ok
