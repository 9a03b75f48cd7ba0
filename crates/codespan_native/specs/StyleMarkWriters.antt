-- What contracts see of a writer of style marks in band.
use Rattle.std.specs.Prelude.{ℕ, Bool, List, [], Option}
use Rattle.codespan_base.specs.WriterLaw.{Sink}
use Rattle.codespan_native.specs.StyleMarkBytes.{style_mark_spelling}
use Rattle.codespan_native.specs.declared.style_mark_writer.StyleMarkWriter.{StyleMarkWriter}

-- what the law of writers sees of a writer of style marks in band
abbrev pub style_mark_sink : Bool → Option (List ℕ) → Sink
style_mark_sink failed contents = record {
  frame = record { spelling = style_mark_spelling; failed = failed; borrows = [] };
  contents = contents;
}

-- the inner writer
abbrev pub style_mark_inner : {W : Type 0} → StyleMarkWriter W → W
style_mark_inner w = w.inner

-- what the law sees of the Rust value
abbrev pub style_mark_writer_sink : {W : Type 0} → (W → Option (List ℕ)) → StyleMarkWriter W
    → Sink
style_mark_writer_sink contents w = style_mark_sink w.failed (contents w.inner)
