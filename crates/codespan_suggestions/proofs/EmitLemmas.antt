-- For the clause `text` of `emit_suggestion_into_string`.
use Rattle.codespan_core.proofs.Std.{◌≡◌, ◌∙◌, ℕ, List, [], Some, sym, ap, true}
use Rattle.codespan_core.specs.Streams.{Stream, text_of, plain_spelling}
use Rattle.codespan_core.specs.WriterLaw.{Sink, with_written, is_known, are_known, extended}
use Rattle.codespan_core.specs.Writers.{fresh_sink}

-- a plain writer that was empty and received a stream has its text
pub received-text : {old new : Sink} {bytes : List ℕ} (s : Stream)
    → old ≡ fresh_sink plain_spelling (Some []) → new.contents ≡ Some bytes
    → (is_known old ≡ true → new ≡ with_written old s) → bytes ≡ text_of s
unfolding with_written is_known are_known extended
received-text {old} {new} {bytes} s fresh contents written =
    let now = written (ap is_known fresh) ∙ ap (λ (x : Sink). with_written x s) fresh in
    let whole : Some bytes ≡ Some (text_of s) =
    sym contents ∙ ap (λ (x : Sink). x.contents) now in
    cc
