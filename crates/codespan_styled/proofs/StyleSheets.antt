-- Rules that are appended to a style sheet one by one: for the clause `css_text` of `html_styles`.
use Rattle.std.proofs.Common.{◌≡◌, ℕ, ◌+◌, ◌<◌, ◌≤◌, Bool, List, ◌∷◌}
use Rattle.std.proofs.Common.{◌++◌, codes, drop, get_or, length, sym, ap, ◌∙◌}
use Rattle.std.proofs.Common.{append_assoc, append-nil, Some}
use Rattle.std.specs.Prelude.{if◌then◌else◌}
use Rattle.std.specs.List.{flat_map}
use Rattle.std.proofs.lemmas.List.{drop_all, drop_more}
use Rattle.codespan_base.specs.declared.term.config.color.Color.{Color}
use Rattle.codespan_base.specs.declared.term.config.color.ColorSpec.{ColorSpec}
use Rattle.codespan_base.specs.declared.term.config.style_mark.StyleMark.{StyleMark}
use Rattle.codespan_base.specs.declared.term.config.styles.Styles.{Styles}
use Rattle.codespan_styled.specs.Html.{style_class}
use Rattle.codespan_styled.specs.StyleSheet.{bright_color, color_declaration, declarations}
use Rattle.codespan_styled.specs.StyleSheet.{normal_color, rule, color_spec_of_style}
use Rattle.codespan_styled.specs.StyleSheet.{weight_declaration}

-- a color
pub color-written : (property code front b1 b2 b3 : List ℕ) (intense : Bool) (color : Color)
    → b1 ≡ front ++ property
    → code ≡ (if intense then bright_color color else normal_color color)
    → b2 ≡ b1 ++ code → b3 ≡ b2 ++ codes "; "
    → b3 ≡ front ++ color_declaration property intense (Some color)
color-written property code front b1 b2 b3 intense color e1 coded e2 e3 =
    rw (e3, e2, coded, e1) (simp append_assoc)

-- the declarations of a style
pub declarations-written : (spec : ColorSpec) (front b1 b2 b3 : List ℕ)
    → b1 ≡ front ++ color_declaration (codes "color: ") spec.intense spec.fg
    → b2 ≡ b1 ++ color_declaration (codes "background-color: ") spec.intense spec.bg
    → b3 ≡ b2 ++ weight_declaration spec.bold → b3 ≡ front ++ declarations spec
declarations-written spec front b1 b2 b3 e1 e2 e3 =
    let fg = color_declaration (codes "color: ") spec.intense spec.fg in
    let bg = color_declaration (codes "background-color: ") spec.intense spec.bg in
    e3 ∙ ap (λ b. b ++ weight_declaration spec.bold)
    (e2 ∙ ap (λ b. b ++ bg) e1 ∙ append_assoc front fg bg) ∙ append_assoc front (fg ++ bg)
    (weight_declaration spec.bold)

-- a rule
pub rule-written : (styles : Styles) (style : StyleMark) (spec : ColorSpec)
    (class front b1 b2 b3 b4 b5 : List ℕ)
    → b1 ≡ front ++ codes ".diagnostic ." → class ≡ style_class style
    → b2 ≡ b1 ++ class → b3 ≡ b2 ++ codes " { "
    → spec ≡ color_spec_of_style styles style
    → b4 ≡ b3 ++ declarations spec → b5 ≡ b4 ++ codes "}\n"
    → b5 ≡ front ++ rule styles style
rule-written styles style spec class front b1 b2 b3 b4 b5 e1 named e2 e3 of e4 e5 =
    e5 ∙ ap (λ b. b ++ codes "}\n") (e4 ∙ ap (λ s. b3 ++ declarations s) of
    ∙ ap (λ b. b ++ declarations (color_spec_of_style styles style))
    (e3
    ∙ ap (λ b. b ++ codes " { ")
    (e2 ∙ ap (λ c. b1 ++ c) named ∙ ap (λ b. b ++ style_class style) e1)))
    ∙ joined
  where
    joined : (((front ++ codes ".diagnostic .") ++ style_class style) ++ codes " { ")
        ++ declarations
        (color_spec_of_style styles style) ++ codes "}\n" ≡ front ++ rule styles style
    joined =
        ap (λ b. ((b ++ codes " { ") ++ declarations (color_spec_of_style styles style))
        ++ codes "}\n") (append_assoc front (codes ".diagnostic .") (style_class style))
        ∙ ap (λ b. (b ++ declarations (color_spec_of_style styles style)) ++ codes "}\n")
        (append_assoc front (codes ".diagnostic ." ++ style_class style) (codes " { "))
        ∙ ap (λ b. b ++ codes "}\n")
        (append_assoc front (codes ".diagnostic ." ++ style_class style ++ codes " { ")
        (declarations (color_spec_of_style styles style)))
        ∙ append_assoc front
        (codes ".diagnostic ." ++ style_class style ++ codes " { "
        ++ declarations (color_spec_of_style styles style))
        (codes "}\n")

-- a rule of those that are left
pub rule-more : (styles : Styles) (classed : List StyleMark) (i : ℕ) (style : StyleMark)
    (front next whole : List ℕ)
    → i < length classed → style ≡ get_or classed i style
    → next ≡ front ++ rule styles style
    → front ++ flat_map (rule styles) (drop i classed) ≡ whole
    → next ++ flat_map (rule styles) (drop (i + 1) classed) ≡ whole
rule-more styles classed i style front next whole inside at is before =
    let rest = flat_map (rule styles) (drop (i + 1) classed) in
    let left : drop i classed ≡ style ∷ drop (i + 1) classed =
    drop_more classed i style inside ∙ ap (λ s. s ∷ drop (i + 1) classed) (sym at) in
    ap (λ f. f ++ rest) is ∙ append_assoc front (rule styles style) rest
    ∙ ap (λ ss. front ++ flat_map (rule styles) ss) (sym left) ∙ before

-- no rule is left
pub rule-end : (styles : Styles) (classed : List StyleMark) (i : ℕ) (front whole : List ℕ)
    → length classed ≤ i → front ++ flat_map (rule styles) (drop i classed) ≡ whole
    → front ≡ whole
rule-end styles classed i front whole past before =
    sym (append-nil front)
    ∙ ap (λ ss. front ++ flat_map (rule styles) ss) (sym (drop_all i classed past)) ∙ before
