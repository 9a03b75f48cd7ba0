use Rattle.std.proofs.Common.{◌∙◌, ◌++◌, ap, refl, ℕ, List, Vec, Global}
use Rattle.codespan_base.specs.Streams.{plain_spelling, spelled}
use Rattle.codespan_native.proofs.Rendered.{fresh_known, text_after}
use Rattle.codespan_native.specs.SourceModel.{native_file_views}
use Rattle.codespan_native.specs.RenderedStreams.{stream_of_output}
use Rattle.codespan_native.proofs.render.marked.render_plain.Goals as goal

pub returns : goal.returns
returns c =
    let stream = stream_of_output c.args.config.now (native_file_views c.args.files.now)
    c.args.diagnostic.now in
    let first = c.in_ok-buffer.buffer.items in
    let begins = c.new-writer.ensures.begins in
    let written = c.in_ok-write_to.ensures.value (fresh_known plain_spelling _ first begins) in
    record {
      value = ap (λ (v : Vec ℕ Global). v.items) c.into_inner.ensures
          ∙ text_after plain_spelling _ _ stream first _ begins written refl
          ∙ ap (λ (front : List ℕ). front ++ spelled plain_spelling stream)
          c.in_ok-buffer.ensures.items;
      is_output = c.in_ok-write_to.ensures.is_output;
    }
