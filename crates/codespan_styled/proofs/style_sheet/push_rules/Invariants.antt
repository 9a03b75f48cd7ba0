use Rattle.std.proofs.Common.{◌≡◌, ◌++◌, drop, string_bytes}
use Rattle.std.specs.List.{flat_map}
use Rattle.codespan_styled.specs.StyleSheet.{rule}
use Rattle.codespan_styled.proofs.style_sheet.push_rules.Given as goal

abbrev pub invariant-loop-style : goal.invariant-loop-style
invariant-loop-style l =
    string_bytes l.css ++ flat_map (rule l.styles) (drop l.style-index l.classed)
    ≡ string_bytes l.initial.css ++ flat_map (rule l.styles) l.classed
