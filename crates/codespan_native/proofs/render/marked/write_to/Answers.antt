use Rattle.codespan_native.proofs.Rendered.{stream_is_output, written_stream}
use Rattle.codespan_native.specs.SourceModel.{native_file_views}
use Rattle.codespan_native.proofs.render.marked.write_to.Goals as goal

pub returns-in-Ok-clause-is_output : goal.returns-in-Ok-clause-is_output
returns-in-Ok-clause-is_output g c =
    stream_is_output c.args.config.now (native_file_views c.args.files.now) c.args.diagnostic.now
    c.in-Ok.ensures

pub returns-in-Ok-clause-value : goal.returns-in-Ok-clause-value
returns-in-Ok-clause-value g c = λ known.
    written_stream c.args.config.now (native_file_views
    c.args.files.now) c.args.diagnostic.now _ _ _
    c.in-Ok.ensures known
