-- The style that takes precedence among those of some labels, found label by label.
use Rattle.std.specs.Prelude.{Bool, List, filter, fold, Option, Some}
use Rattle.codespan_output.specs.Types.{LabelStyle, Primary}
use Rattle.codespan_core.specs.Labels.{LabelModel}

-- of two styles a primary one takes precedence
abbrev pub prefer_primary : Option LabelStyle → LabelStyle → Option LabelStyle
prefer_primary (Some Primary) style = Some Primary
prefer_primary _ style = Some style

-- the style that takes precedence among what was found and those of the labels that meet the test
abbrev pub preferred_style : (LabelModel → Bool) → Option LabelStyle → List LabelModel
    → Option LabelStyle
preferred_style test found xs =
    fold (λ best (x : LabelModel). prefer_primary best x.style) found (filter test xs)
