use Rattle.codespan_core.proofs.Std.{◌∙◌}
use Rattle.codespan_core.proofs.term.config.writing.put_char.Goals as goal

-- the bytes that were written are those of the character in UTF-8
pub returns : goal.returns
returns g c =
    rw (c.as_bytes.ensures.value ∙ c.encode_utf8-text.ensures.value) at c.put_glyph.ensures
