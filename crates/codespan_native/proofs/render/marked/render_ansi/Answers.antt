use Rattle.std.proofs.Common.{◌∙◌, ◌++◌, ap, refl, ℕ, List, Vec, Global}
use Rattle.codespan_base.specs.declared.term.config.ansi.Ansi.{Ansi}
use Rattle.codespan_base.specs.Streams.{spelled}
use Rattle.codespan_base.specs.StyleWriters.{ansi_inner}
use Rattle.codespan_base.specs.StyleSpellings.{ansi_spelling}
use Rattle.codespan_native.proofs.Rendered.{fresh_known, text_after}
use Rattle.codespan_native.specs.SourceModel.{native_file_views}
use Rattle.codespan_native.specs.RenderedStreams.{stream_of_output}
use Rattle.codespan_native.proofs.render.marked.render_ansi.Goals as goal

pub returns : goal.returns
returns c =
    let stream = stream_of_output c.args.config.now (native_file_views c.args.files.now)
    c.args.diagnostic.now in
    let spelling = ansi_spelling c.args.styles.now in
    let first : List ℕ = (ansi_inner {W = Vec ℕ Global} c.new.result).items in
    let begins = c.new-writer.ensures.begins in
    let written = c.in_ok-write_to.ensures.value (fresh_known spelling _ first begins) in
    record {
      value = ap (λ (v : Vec ℕ Global). v.items) c.into_inner-2.ensures
          ∙ ap (λ (a : Ansi (Vec ℕ Global)). (ansi_inner a).items) c.into_inner.ensures
          ∙ text_after spelling _ _ stream first _ begins written refl
          ∙ ap (λ (v : Vec ℕ Global). v.items ++ spelled spelling stream) c.new.ensures
          ∙ ap (λ (front : List ℕ). front ++ spelled spelling stream)
          c.in_ok-buffer.ensures.items;
      is_output = c.in_ok-write_to.ensures.is_output;
    }
