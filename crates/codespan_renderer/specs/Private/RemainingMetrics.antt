-- The characters that an iterator over the characters of a line has not returned yet.
use Rattle.std.specs.Prelude.{◌≡◌, ℕ, ◌+◌, ◌≤◌, Bool, true, false, List, []}
use Rattle.std.specs.Prelude.{◌∷◌, Option, Some, None}
use Rattle.std.specs.Str.{chars}
use Rattle.std.specs.Str.Iter.{chars_rest}
use Rattle.codespan_output.specs.declared.char_metrics.Metrics.{Metrics}
use Rattle.codespan_renderer.specs.declared.term.renderer.char_metrics.CharMetrics.{CharMetrics}
use Rattle.codespan_output.specs.CharMetrics.{metrics_then, placeholder}

-- what is after the last character, by the byte index and the column there
abbrev pub MetricsAfterEnd : Type 0
MetricsAfterEnd = ℕ → ℕ → List Metrics

-- nothing is after it
abbrev pub no_more : MetricsAfterEnd
no_more = λ _ _. []

-- the placeholder where this is true, else nothing
abbrev pub after_last : Bool → MetricsAfterEnd
after_last true = placeholder
after_last false = no_more

-- the characters that are left, and what is after the last one
abbrev pub metrics_from : MetricsAfterEnd → CharMetrics → List Metrics
metrics_from after s =
    metrics_then after s.tab_width s.byte_index s.column (chars (chars_rest s.chars))

-- the characters that it has not returned yet
abbrev pub remaining_metrics : CharMetrics → List Metrics
remaining_metrics s = metrics_from (after_last s.has_placeholder) s

-- the iterator goes over a character
pub record GoesOver (c : Metrics) (old new : CharMetrics) : Type 0 where
  pub yields : (after : MetricsAfterEnd) → metrics_from after old ≡ c ∷ metrics_from after new
  pub starts_at_byte : c.byte_index ≡ old.byte_index
  pub starts_at_column : c.column ≡ old.column
  pub has_byte : 1 ≤ c.bytes
  pub byte_index : new.byte_index ≡ old.byte_index + c.bytes
  pub column : new.column ≡ old.column + c.unicode_width

-- the iterator has gone over all characters, and stays where it is
pub record IsPastLast (old new : CharMetrics) : Type 0 where
  pub none : (after : MetricsAfterEnd)
      → metrics_from after old ≡ after old.byte_index old.column
  pub stays : (after : MetricsAfterEnd)
      → metrics_from after new ≡ after old.byte_index old.column
  pub byte_index : new.byte_index ≡ old.byte_index
  pub column : new.column ≡ old.column

-- the iterator returns its next character, or none is left
abbrev pub YieldsCharacter : CharMetrics → Option Metrics → CharMetrics → Type 0
YieldsCharacter old (Some c) new = GoesOver c old new
YieldsCharacter old None new = IsPastLast old new
