-- What the call for C that writes the style sheet of HTML elements does.
use Rattle.std.specs.Prelude.{◌≡◌, ◌≤◌, ◌↔◌, ◌⊎◌, ℕ, List}
use Rattle.codespan_styled.specs.StyleSheet.{style_sheet}
use Rattle.codespan_native.specs.declared.raw.RawStyles.{RawStyles}
use Rattle.codespan_native.specs.Converted.{custom_styles}
use Rattle.codespan_native.specs.Results.{IsTooSmall, IsUnchanged, IsWritten}
use Rattle.codespan_native.specs.Statuses.{OK, TOO_SMALL, OUT_OF_MEMORY, INVALID}
use Rattle.codespan_native.specs.Validity.{HoldsIfAt, IsValidColorSpec, color_specs_of}

-- the colors of all styles are numbers of colors
abbrev pub AreValidStyles : RawStyles → Type 0
AreValidStyles styles = (i : ℕ) → HoldsIfAt IsValidColorSpec (color_specs_of styles) i

-- the bytes of the style sheet
unfoldable pub style_sheet_bytes : RawStyles → List ℕ
style_sheet_bytes styles = style_sheet (custom_styles styles)

-- the call returns this status and length, and leaves `new` in `out`, which was `old`
pub record WritesStyleSheet (styles : RawStyles) (old new : List ℕ) (status written : ℕ)
    : Type 0 where
  pub ok : status ≡ OK → IsWritten (style_sheet_bytes styles) old new written
  pub too_small : status ≡ TOO_SMALL → IsTooSmall (style_sheet_bytes styles) old new written
  pub unchanged : OUT_OF_MEMORY ≤ status → IsUnchanged old new written
  pub valid : (status ≤ OUT_OF_MEMORY) ↔ AreValidStyles styles
  pub is_status : (status ≤ OUT_OF_MEMORY) ⊎ (status ≡ INVALID)
