-- For `cells_at_most` and `cells_at`: printable characters of ASCII, and other characters but tabs.
use Rattle.codespan_core.proofs.Std.{◌≡◌, ◌∙◌, ℕ, ◌≤◌, arith, common_steps, lt-ltb, ne_eqb}
use Rattle.codespan_core.proofs.Std.{refl}
use Rattle.unicode_width.specs.Width.{char_width}
use Rattle.codespan_output.specs.CharMetrics.{width_at}
use Rattle.codespan_output.specs.FittedParts.{cells_at_most}

-- each of them has one cell
pub cells_at_most-printable : (tab c : ℕ) → 32 ≤ c → c ≤ 126 → 1 ≡ cells_at_most tab c
unfolding char_width
cells_at_most-printable tab c low high = grind (arith, common_steps, ne_eqb, lt-ltb)

-- a character that is no tab has as many at each column
pub width_at-char : (tab column c : ℕ) → (c ≡ 9 → ⊥)
    → cells_at_most tab c ≡ width_at tab column c
width_at-char tab column c other = rw (ne_eqb c 9 other) refl

pub width_at-printable : (tab column c : ℕ) → 32 ≤ c → c ≤ 126
    → 1 ≡ width_at tab column c
width_at-printable tab column c low high =
    cells_at_most-printable tab c low high
    ∙ width_at-char tab column c (λ e. omega (arith, e, low))
