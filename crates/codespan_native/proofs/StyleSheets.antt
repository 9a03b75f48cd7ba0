-- What the call for the style sheet does, for the clause of `write_style_sheet`: where it is
-- written, and where an allocation fails.
use Rattle.std.proofs.Common.{◌≡◌, ◌≤◌, ℕ, List, inl, refl, subst, arith}
use Rattle.codespan_native.specs.declared.raw.RawStyles.{RawStyles}
use Rattle.codespan_native.specs.Results.{IsTooSmall, IsWritten}
use Rattle.codespan_native.specs.Statuses.{OK, TOO_SMALL, OUT_OF_MEMORY}
use Rattle.codespan_native.specs.StyleSheets.{AreValidStyles, WritesStyleSheet, style_sheet_bytes}

module _ (styles : RawStyles) (valid : AreValidStyles styles) where
  -- the style sheet is copied, if it fits
  pub copied-writes : (css old new : List ℕ) (status written : ℕ)
      → css ≡ style_sheet_bytes styles → (status ≡ OK → IsWritten css old new written)
      → (status ≡ TOO_SMALL → IsTooSmall css old new written) → status ≤ TOO_SMALL
      → WritesStyleSheet styles old new status written
  copied-writes css old new status written are ok too_small low = record {
    ok = λ e. subst (λ css. IsWritten css old new written) are (ok e);
    too_small = λ e. subst (λ css. IsTooSmall css old new written) are (too_small e);
    unchanged = λ high. absurd (omega (arith, high, low));
    valid = (λ _. valid, λ _. omega (arith, low));
    is_status = inl (omega (arith, low));
  }

  -- an allocation fails
  pub out_of_memory-writes : (out : List ℕ) → WritesStyleSheet styles out out OUT_OF_MEMORY 0
  out_of_memory-writes out = record {
    ok = λ e. absurd (omega (arith, e));
    too_small = λ e. absurd (omega (arith, e));
    unchanged = λ _. record { none = refl; unchanged = refl };
    valid = (λ _. valid, λ _. omega arith);
    is_status = inl (omega arith);
  }
