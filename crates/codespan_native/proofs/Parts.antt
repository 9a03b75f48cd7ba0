-- Valid arguments have valid parts, as the calls of `output_of` require.
use Rattle.std.proofs.Common.{◌≡◌, All, List, arith}
use Rattle.codespan_native.specs.declared.error.Argument.TheVariants.{Characters, SnippetStart}
use Rattle.codespan_native.specs.declared.error.Argument.TheVariants.{Character, FileName}
use Rattle.codespan_native.specs.declared.error.Argument.TheVariants.{FileSource, FileLines}
use Rattle.codespan_native.specs.declared.error.Argument.TheVariants.{FileLocations, Code, Message}
use Rattle.codespan_native.specs.declared.error.Argument.TheVariants.{LabelMessage, Note}
use Rattle.codespan_native.specs.declared.raw.RawConfig.{RawConfig}
use Rattle.codespan_native.specs.declared.raw.RawDiagnostic.{RawDiagnostic}
use Rattle.codespan_native.specs.declared.raw.RawFile.{RawFile}
use Rattle.codespan_native.specs.Validity.{AreValid}
use Rattle.codespan_native.specs.ValidParts.{AreCustomChars, AreValidChars, IsValidDiagnostic}
use Rattle.codespan_native.specs.ValidParts.{IsValidFile}

module _ (files : List RawFile) (d : RawDiagnostic) (c : RawConfig) (valid : AreValid files d c)
  where
    custom_chars : c.characters ≡ 2 → AreCustomChars c.chars
    custom_chars chosen = record {
      snippet_start = valid SnippetStart 0 chosen;
      source_border_left = valid Character 0 chosen 0 (omega arith);
      source_border_left_break = valid Character 1 chosen 0 (omega arith);
      note_bullet = valid Character 2 chosen 0 (omega arith);
      single_primary_caret = valid Character 3 chosen 0 (omega arith);
      single_secondary_caret = valid Character 4 chosen 0 (omega arith);
      multi_primary_caret_start = valid Character 5 chosen 0 (omega arith);
      multi_primary_caret_end = valid Character 6 chosen 0 (omega arith);
      multi_secondary_caret_start = valid Character 7 chosen 0 (omega arith);
      multi_secondary_caret_end = valid Character 8 chosen 0 (omega arith);
      multi_top_left = valid Character 9 chosen 0 (omega arith);
      multi_top = valid Character 10 chosen 0 (omega arith);
      multi_bottom_left = valid Character 11 chosen 0 (omega arith);
      multi_bottom = valid Character 12 chosen 0 (omega arith);
      multi_left = valid Character 13 chosen 0 (omega arith);
      pointer_left = valid Character 14 chosen 0 (omega arith);
    }

    pub valid_chars : AreValidChars c
    valid_chars = record { choice = valid Characters 0; custom = custom_chars }

    pub valid_files : All IsValidFile files
    valid_files = λ k f below. record {
      name = valid FileName k f below;
      source = valid FileSource k f below;
      lines = valid FileLines k f below;
      locations = valid FileLocations k f below;
    }

    pub valid_diagnostic : IsValidDiagnostic d
    valid_diagnostic = record {
      code = valid Code 0;
      message = valid Message 0;
      labels = λ k l below. valid LabelMessage k l below;
      notes = λ k n below. valid Note k n below;
    }
