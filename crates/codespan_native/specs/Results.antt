-- What a call leaves in the caller's buffer `out` and in `written`.
use Rattle.std.specs.Prelude.{◌≡◌, ℕ, ◌<◌, ◌≤◌, List, ◌++◌, length, drop}

-- the bytes are at the front of `out`, whose rest is unchanged
pub record IsWritten (bytes old new : List ℕ) (written : ℕ) : Type 0 where
  pub is_length : written ≡ length bytes
  pub fits : written ≤ length old
  pub are_there : new ≡ bytes ++ drop written old

-- `out` is too small for the bytes, and unchanged; their number is known
pub record IsTooSmall (bytes old new : List ℕ) (written : ℕ) : Type 0 where
  pub is_length : written ≡ length bytes
  pub small : length old < written
  pub unchanged : new ≡ old

-- nothing is written
pub record IsUnchanged (old new : List ℕ) (written : ℕ) : Type 0 where
  pub none : written ≡ 0
  pub unchanged : new ≡ old
