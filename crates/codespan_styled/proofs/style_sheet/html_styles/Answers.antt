use Rattle.std.proofs.Common.{ℕ, List, ◌++◌, ap, ◌∙◌}
use Rattle.std.specs.List.{flat_map}
use Rattle.codespan_styled.specs.StyleSheet.{layout_rules, classed_styles, rule}
use Rattle.codespan_styled.proofs.style_sheet.html_styles.Goals as goal

-- the rules of all classes of styles are appended to nothing, and then those of the layout
pub returns-clause-css_text : goal.returns-clause-css_text
returns-clause-css_text c =
    let rules = flat_map (rule c.args.styles.now) classed_styles in
    c.in_ok-push_str.ensures.bytes
    ∙ ap (λ (l : List ℕ). l ++ layout_rules)
    (c.in_ok-push_rules.ensures ∙ ap (λ (l : List ℕ). l ++ rules) c.new-css.ensures.bytes)
