use Rattle.std.proofs.Common.{◌∙◌, ap, rules}
use Rattle.codespan_styled.specs.StyleSheet.{style_sheet}
use Rattle.codespan_native.specs.StyleSheets.{style_sheet_bytes}
use Rattle.codespan_native.proofs.StyleSheets.{copied-writes, out_of_memory-writes}
use Rattle.codespan_native.proofs.style_sheet.write_style_sheet.Goals as goal

-- the style sheet is copied, if it fits
pub returns-in-Ok : goal.returns-in-Ok
unfolding style_sheet_bytes
returns-in-Ok c =
    copied-writes c.args.styles.now (c.are_valid_styles.ensures.0 (search rules))
    c.as_bytes.result.now _ _ _ _
    (c.as_bytes.ensures.value ∙ c.as_str.ensures.value ∙ c.in-Ok.ensures.css_text
    ∙ ap style_sheet c.convert_styles.ensures)
    c.copy_out.ensures.ok c.copy_out.ensures.too_small c.copy_out.ensures.status

-- an allocation fails
pub returns-in-Err : goal.returns-in-Err
returns-in-Err c =
    out_of_memory-writes c.args.styles.now (c.are_valid_styles.ensures.0 (search rules)) _
