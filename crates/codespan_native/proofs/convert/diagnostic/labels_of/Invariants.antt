use Rattle.std.proofs.Common.{◌≡◌, map, take}
use Rattle.codespan_base.specs.Diagnostics.{label_view}
use Rattle.codespan_native.specs.Converted.{converted_label}
use Rattle.codespan_native.proofs.convert.diagnostic.labels_of.Given as goal

-- the labels so far
abbrev pub invariant-loop-label : goal.invariant-loop-label
invariant-loop-label l =
    map label_view l.labels.items ≡ map (converted_label l.files) (take l.label-index l.raw)
