-- The characters of a line as a cursor goes over them, and the labels over them.
use Rattle.std.specs.Prelude.{◌≡◌, ℕ, ◌+◌, ◌≤◌, Bool, ◌&&◌, List, []}
use Rattle.std.specs.Prelude.{◌∷◌}
use Rattle.std.specs.List.{list_any}
use Rattle.codespan_core.specs.Labels.{LabelModel}
use Rattle.codespan_output.specs.declared.char_metrics.Metrics.{Metrics}
use Rattle.codespan_output.specs.Carets.{covers}

-- one of the labels that meet the test has a byte of the character
abbrev pub is_covered : (LabelModel → Bool) → List LabelModel → Metrics → Bool
is_covered passes xs c = list_any (λ x. passes x && covers x c) xs

-- characters of at least one byte each, one after another from a byte index on
abbrev pub AreContiguous : ℕ → List Metrics → Type 0
AreContiguous byte_index [] = Unit {0}
AreContiguous byte_index (c ∷ cs) =
    (c.byte_index ≡ byte_index) × (1 ≤ c.bytes) × AreContiguous (byte_index + c.bytes) cs
