-- For the clauses `failed` of the file databases: a line past the last fails, and the line of a
-- byte is never past the last.
use Rattle.codespan_core.proofs.Std.{◌≡◌, ◌≢◌, ℕ, suc, ◌-◌, ◌^◌, ◌<◌}
use Rattle.codespan_core.proofs.Std.{◌≤◌, List, length, refl, ap, arith, Option, Some, None}
use Rattle.codespan_core.proofs.Std.{lt-leb, le-leb, ne_eqb}
use Rattle.codespan_core.specs.declared.files.error.Error.{Error}
use Rattle.codespan_core.specs.declared.files.error.Error.TheVariants.{LineTooLarge, OutOfMemory}
use Rattle.codespan_core.specs.{line_of, line_number_failure, line_starts_of}
use Rattle.codespan_core.specs.{past_last_line_failure}
use Rattle.codespan_core.specs.Lemmas.Lines.{line_of_below}

-- a line that is not below the number of lines fails, with the index of the last line
pub past_last_line_failure_late : (text : List ℕ) (i n : ℕ)
    → n ≡ length (line_starts_of text)
    → n ≤ i → past_last_line_failure text i ≡ Some (LineTooLarge i (n - 1))
past_last_line_failure_late text i n count late =
    rw count (rw (lt-leb (suc i) (length (line_starts_of text)) (omega arith)) refl)

-- a line that is below it does not fail
pub past_last_line_failure_early : (text : List ℕ) (i : ℕ) → i < length (line_starts_of text)
    → past_last_line_failure text i ≡ None
past_last_line_failure_early text i early =
    rw (le-leb (suc i) (length (line_starts_of text)) (omega arith)) refl

-- the line of a byte exists
byte_line_below : (text : List ℕ) (byte i : ℕ) → i ≡ line_of (line_starts_of text) byte
    → i < length (line_starts_of text)
byte_line_below text byte i line = rw line (line_of_below (line_starts_of text) byte (omega arith))

-- so a lookup of it does not fail
pub byte_line_exists : (text : List ℕ) (byte i : ℕ) → i ≡ line_of (line_starts_of text) byte
    → past_last_line_failure text i ≡ None
byte_line_exists text byte i line =
    past_last_line_failure_early text i (byte_line_below text byte i line)

-- and has a number, where there are fewer than 2^64 starts
pub byte_line_numbered : (text starts : List ℕ) (byte i : ℕ) → starts ≡ line_starts_of text
    → length starts < 2 ^ 64 → i ≡ line_of (line_starts_of text) byte
    → line_number_failure i ≡ None
byte_line_numbered text starts byte i same fits line =
    let below = byte_line_below text byte i line in
    let count : length starts ≡ length (line_starts_of text) = ap length same in
    rw (ne_eqb i (2 ^ 64 - 1) (λ e. omega (arith, e))) refl

-- a call that has no such failure does not fail
pub never : {P : Type 0} (failure : Option Error) (e : Error) → failure ≡ None
    → (e ≢ OutOfMemory → failure ≡ Some e) → e ≢ OutOfMemory → P
never failure e none failed memory =
    let some : failure ≡ Some e = failed memory in
    absurd (cc)
