use Rattle.std.proofs.Common.{ℕ, List, ap, ◌∙◌, refl, string_bytes, subst}
use Rattle.gallery_cases.specs.Statements.{UnescapesTo}
use Rattle.program_io.specs.Fields.{field_of, past_space}
use Rattle.gallery_cases.specs.Numbers.{IsNumber}
use Rattle.gallery_cases.proofs.statement.parse_edit.Goals as goal

-- the file, both ends of the range, and the replacement follow one another
pub returns-clause-parsed : goal.returns-clause-parsed
returns-clause-parsed c =
    let one = c.in_ok-file_id.ensures.left in
    let two = c.in_ok-start.ensures.left ∙ ap past_space one in
    let three = c.in_ok-end.ensures.left ∙ ap past_space two in (
      refl,
      record {
        file = c.in_ok-file_id.ensures.number;
        start =
            subst (λ (text : List ℕ). IsNumber (field_of text) c.in_ok-start.start) one
            c.in_ok-start.ensures.number;
        end =
            subst (λ (text : List ℕ). IsNumber (field_of text) c.in_ok-end.end) two
            c.in_ok-end.ensures.number;
        replacement =
            subst (λ (text : List ℕ). UnescapesTo text (string_bytes c.in_ok-unescape.field-0))
            three c.in_ok-unescape.ensures;
      },
    )
