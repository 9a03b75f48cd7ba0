use Rattle.codespan_core.proofs.Std.{rules, ◌≡◌, ℕ, List, [], Some, ap, ◌∙◌}
use Rattle.codespan_core.specs.LawfulFiles.{IsLawful}
use Rattle.codespan_core.specs.Streams.{plain_spelling}
use Rattle.codespan_core.specs.WriterLaw.{Sink}
use Rattle.codespan_core.specs.Writers.{fresh_sink}
use Rattle.codespan_views.proofs.Outputs.Emitted.{string_rendered, text_is_utf8, text_means_labels}
use Rattle.codespan_views.proofs.emitting.emit_into_string.Goals as goal

-- a writer of plain text over an empty buffer begins with nothing
begins-empty : {s : Sink} {xs : List ℕ} → s ≡ fresh_sink plain_spelling (Some xs)
    → xs ≡ []
    → s ≡ fresh_sink plain_spelling (Some [])
begins-empty begins empty = begins ∙ ap (λ ys. fresh_sink plain_spelling (Some ys)) empty

-- what was written is UTF-8
pub from_utf8_unchecked-requires : goal.from_utf8_unchecked-requires
from_utf8_unchecked-requires g c =
    let file = ((g.F.Files.database c.args.files.now).file) in
    let claim : g.claim c.lifetimes = search rules in
    let lawful : (id : g.row.F-FileId.Denot) → IsLawful (file id) =
    λ id. (g.met.F.Files c.lifetimes claim).lawful c.args.files.now id in
    text_is_utf8 c.in-Ok.ensures
    (begins-empty c.new-plain.ensures.begins c.in_ok-bytes.ensures.items) (search rules)
    c.chars_are_scalars.ensures lawful

pub returns-in-Ok-clause-ok : goal.returns-in-Ok-clause-ok
returns-in-Ok-clause-ok g c =
    string_rendered c.in-Ok.ensures
    (begins-empty c.new-plain.ensures.begins c.in_ok-bytes.ensures.items) (search rules)

pub returns-in-Ok-clause-means : goal.returns-in-Ok-clause-means
returns-in-Ok-clause-means g c =
    text_means_labels
    (string_rendered c.in-Ok.ensures
    (begins-empty c.new-plain.ensures.begins c.in_ok-bytes.ensures.items) (search rules))
