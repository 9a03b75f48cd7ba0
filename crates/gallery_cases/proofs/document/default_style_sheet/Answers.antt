use Rattle.std.proofs.Common.{◌≡◌, string_bytes, subst}
use Rattle.codespan_base.specs.declared.term.config.styles.Styles.{Styles}
use Rattle.codespan_styled.specs.StyleSheet.{style_sheet}
use Rattle.gallery_cases.proofs.document.default_style_sheet.Goals as goal

pub returns : goal.returns
returns c =
    subst (λ (styles : Styles). string_bytes c.in_ok-html_styles.field-0 ≡ style_sheet styles)
    c.default.ensures c.in_ok-html_styles.ensures.css_text
