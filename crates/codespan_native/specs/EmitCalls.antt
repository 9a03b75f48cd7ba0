-- What the call for C does.
use Rattle.std.specs.Prelude.{◌≡◌, ◌≢◌, ◌≤◌, ◌↔◌, ℕ, List}
use Rattle.codespan_native.specs.declared.error.Argument.TheVariants.{LabelFile}
use Rattle.codespan_native.specs.declared.raw.Detail.{Detail}
use Rattle.codespan_native.specs.declared.raw.RawConfig.{RawConfig}
use Rattle.codespan_native.specs.declared.raw.RawDiagnostic.{RawDiagnostic}
use Rattle.codespan_native.specs.declared.raw.RawFile.{RawFile}
use Rattle.codespan_native.specs.Results.{IsTooSmall, IsUnchanged, IsWritten}
use Rattle.codespan_native.specs.Statuses.{OK, TOO_SMALL, OUT_OF_MEMORY, FILE_MISSING, INVALID}
use Rattle.codespan_native.specs.Validity.{AreValid, FirstInvalidIs, NamesFirstInvalid, no_detail}
use Rattle.codespan_native.specs.Meaning.{Means, NoLookupFails, output_bytes}

-- the call returns this status, length and detail, and leaves `new` in `out`, which was `old`
pub record EmitsToBuffer (files : List RawFile) (diagnostic : RawDiagnostic) (config : RawConfig)
    (old new : List ℕ) (status written : ℕ) (detail : Detail) : Type 0 where
  pub ok : status ≡ OK → IsWritten (output_bytes files diagnostic config) old new written
  pub too_small : status ≡ TOO_SMALL
      → IsTooSmall (output_bytes files diagnostic config) old new written
  pub unchanged : OUT_OF_MEMORY ≤ status → IsUnchanged old new written
  pub valid : (status ≤ OUT_OF_MEMORY) ↔ AreValid files diagnostic config
  pub missing : (status ≡ FILE_MISSING)
      ↔ FirstInvalidIs files diagnostic config (λ a. a ≡ LabelFile)
  pub invalid : (status ≡ INVALID) ↔ FirstInvalidIs files diagnostic config
      (λ a. a ≢ LabelFile)
  pub named : FILE_MISSING ≤ status → NamesFirstInvalid files diagnostic config detail
  pub none_named : status ≤ OUT_OF_MEMORY → detail ≡ no_detail
  pub found : status ≤ OUT_OF_MEMORY → NoLookupFails files diagnostic
  pub means : status ≤ TOO_SMALL → config.display_style ≡ 0 → Means files diagnostic config
  pub is_status : status ≤ INVALID
