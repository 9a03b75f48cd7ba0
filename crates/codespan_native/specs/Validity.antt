-- Which arguments are valid, and which invalid one is the first.
use Rattle.std.specs.Prelude.{◌≡◌, ◌<◌, ◌≤◌, ℕ, true, List, [], ◌∷◌, length}
use Rattle.std.specs.Prelude.{All, Option, MatchOption}
use Rattle.std.specs.List.{slice_index_or, HoldsAt, AllWithin}
use Rattle.std.specs.Char.{InScalarRange}
use Rattle.std.specs.Str.{IsUtf8}
use Rattle.codespan_native.specs.declared.error.Argument.{Argument}
use Rattle.codespan_native.specs.declared.error.Argument.TheVariants.{Abi, DisplayStyle, Layout}
use Rattle.codespan_native.specs.declared.error.Argument.TheVariants.{Form, ColorMode, Characters}
use Rattle.codespan_native.specs.declared.error.Argument.TheVariants.{SnippetStart, Character}
use Rattle.codespan_native.specs.declared.error.Argument.TheVariants.{Color, ConfigReserved}
use Rattle.codespan_native.specs.declared.error.Argument.TheVariants.{FileName, FileSource}
use Rattle.codespan_native.specs.declared.error.Argument.TheVariants.{FileLines, FileLocations}
use Rattle.codespan_native.specs.declared.error.Argument.TheVariants.{FileReserved, Severity, Code}
use Rattle.codespan_native.specs.declared.error.Argument.TheVariants.{Message, DiagnosticReserved}
use Rattle.codespan_native.specs.declared.error.Argument.TheVariants.{LabelStyle, LabelMessage}
use Rattle.codespan_native.specs.declared.error.Argument.TheVariants.{LabelFile, LabelReserved}
use Rattle.codespan_native.specs.declared.error.Argument.TheVariants.{Note}
use Rattle.codespan_native.specs.declared.raw.Detail.{Detail}
use Rattle.codespan_native.specs.declared.raw.RawChars.{RawChars}
use Rattle.codespan_native.specs.declared.raw.RawColorSpec.{RawColorSpec}
use Rattle.codespan_native.specs.declared.raw.RawConfig.{RawConfig}
use Rattle.codespan_native.specs.declared.raw.RawDiagnostic.{RawDiagnostic}
use Rattle.codespan_native.specs.declared.raw.RawFile.{RawFile}
use Rattle.codespan_native.specs.declared.raw.RawLabel.{RawLabel}
use Rattle.codespan_native.specs.declared.raw.RawLine.{RawLine}
use Rattle.codespan_native.specs.declared.raw.RawStyles.{RawStyles}
use Rattle.codespan_native.specs.declared.raw.RawText.{RawText}
use Rattle.codespan_native.specs.StatedLines.{are_lines, locations_ascend}
use Rattle.codespan_native.specs.Constants.{ABI}
use Rattle.codespan_native.specs.Statuses.{FILE_MISSING, INVALID}

-- ---- values

-- the caller's characters, by their code points
abbrev pub code_points_of : RawChars → List ℕ
code_points_of c =
    c.source_border_left ∷ c.source_border_left_break ∷ c.note_bullet ∷ c.single_primary_caret
    ∷ c.single_secondary_caret ∷ c.multi_primary_caret_start ∷ c.multi_primary_caret_end
    ∷ c.multi_secondary_caret_start ∷ c.multi_secondary_caret_end ∷ c.multi_top_left ∷
    c.multi_top
    ∷ c.multi_bottom_left ∷ c.multi_bottom ∷ c.multi_left ∷ c.pointer_left ∷ []

-- the caller's styles
abbrev pub color_specs_of : RawStyles → List RawColorSpec
color_specs_of s =
    s.header_bug ∷ s.header_error ∷ s.header_warning ∷ s.header_note ∷ s.header_help
    ∷ s.header_message ∷ s.primary_label_bug ∷ s.primary_label_error ∷
    s.primary_label_warning
    ∷ s.primary_label_note ∷ s.primary_label_help ∷ s.secondary_label ∷ s.line_number
    ∷ s.source_border ∷ s.note_bullet ∷ []

-- both colors of a style are numbers of colors: from 0, for none, to 8
pub record IsValidColorSpec (s : RawColorSpec) : Type 0 where
  pub fg : s.fg ≤ 8
  pub bg : s.bg ≤ 8

-- lines of a text, or none
abbrev pub AreValidLines : List ℕ → ℕ → List RawLine → Type 0
AreValidLines text first_byte [] = Unit {0}
AreValidLines text first_byte (l ∷ ls) = are_lines text first_byte (l ∷ ls) ≡ true

-- the words are all 0
abbrev pub AreZero : List ℕ → Type 0
AreZero words = All (λ word. word ≡ 0) words

-- ---- facts of a file, of a label and of a note

-- the name of a file is UTF-8
abbrev pub HasValidName : RawFile → Type 0
HasValidName f = IsUtf8 f.name.now

-- the source of a file is UTF-8
abbrev pub HasValidSource : RawFile → Type 0
HasValidSource f = IsUtf8 f.source.now

-- the lines of a file are lines of its source
abbrev pub HasValidLines : RawFile → Type 0
HasValidLines f = AreValidLines f.source.now f.first_byte f.lines.now

-- the locations of a file ascend
abbrev pub HasValidLocations : RawFile → Type 0
HasValidLocations f = locations_ascend f.first_byte f.locations.now ≡ true

-- the reserved words of a file are 0
abbrev pub HasZeroReserved : RawFile → Type 0
HasZeroReserved f = AreZero f.reserved

-- the style of a label is primary or secondary
abbrev pub HasValidStyle : RawLabel → Type 0
HasValidStyle l = l.style ≤ 1

-- the message of a label is UTF-8
abbrev pub HasValidMessage : RawLabel → Type 0
HasValidMessage l = IsUtf8 l.message.now

-- a text is UTF-8
abbrev pub IsValidText : RawText → Type 0
IsValidText t = IsUtf8 t.bytes.now

-- the label is of one of so many files
abbrev pub HasValidFile : ℕ → RawLabel → Type 0
HasValidFile count l = l.file < count

-- the reserved words of a label are 0
abbrev pub HasZeroWords : RawLabel → Type 0
HasZeroWords l = AreZero l.reserved

-- ---- arguments

-- the number of an argument
abbrev pub argument_number : Argument → ℕ
argument_number Abi = 1
argument_number DisplayStyle = 2
argument_number Layout = 3
argument_number Form = 4
argument_number ColorMode = 5
argument_number Characters = 6
argument_number SnippetStart = 7
argument_number Character = 8
argument_number Color = 9
argument_number ConfigReserved = 10
argument_number FileName = 11
argument_number FileSource = 12
argument_number FileLines = 13
argument_number FileLocations = 14
argument_number FileReserved = 15
argument_number Severity = 16
argument_number Code = 17
argument_number Message = 18
argument_number DiagnosticReserved = 19
argument_number LabelStyle = 20
argument_number LabelMessage = 21
argument_number LabelFile = 22
argument_number LabelReserved = 23
argument_number Note = 24

-- the fact holds of the value at this index, where there is one
abbrev pub HoldsIfAt : {X : Type 0} → (X → Type 0) → List X → ℕ → Type 0
HoldsIfAt {X} P xs i = (d : X) → i < length xs → P (slice_index_or xs i d)

-- the first of these values of which the fact does not hold has this index
abbrev pub IsFirstWithout : {X : Type 0} → (X → Type 0) → List X → ℕ → Type 0
IsFirstWithout P xs i = (i < length xs) × HoldsAt (λ x. ¬ P x) xs i × AllWithin P xs 0 i

-- that index, or the fact holds of all values
abbrev pub FindsFirstWithout : {X : Type 0} → (X → Type 0) → List X → Option ℕ → Type 0
FindsFirstWithout P xs r = MatchOption r (AllWithin P xs 0 (length xs)) (IsFirstWithout P xs)

-- the first index at which the fact does not hold
pub record IsFirstInvalidIndex (Valid : ℕ → Type 0) (i : ℕ) : Type 0 where
  pub invalid : ¬ Valid i
  pub before : (j : ℕ) → j < i → Valid j

-- that index, or the fact holds at all indices
abbrev pub FindsFirstInvalid : (ℕ → Type 0) → Option ℕ → Type 0
FindsFirstInvalid Valid r = MatchOption r ((i : ℕ) → Valid i) (IsFirstInvalidIndex Valid)

module _ (files : List RawFile) (d : RawDiagnostic) (c : RawConfig) where
  -- the argument is valid; of several, the one of this index
  abbrev pub IsValidAt : Argument → ℕ → Type 0
  IsValidAt Abi i = c.abi ≡ ABI
  IsValidAt DisplayStyle i = c.display_style ≤ 2
  IsValidAt Layout i = c.layout ≤ 1
  IsValidAt Form i = c.form ≤ 4
  IsValidAt ColorMode i = c.color_mode ≤ 2
  IsValidAt Characters i = c.characters ≤ 2
  IsValidAt SnippetStart i = c.characters ≡ 2 → IsUtf8 c.chars.snippet_start.now
  IsValidAt Character i = c.characters ≡ 2 → HoldsIfAt InScalarRange (code_points_of c.chars) i
  IsValidAt Color i = c.color_mode ≡ 2 → HoldsIfAt IsValidColorSpec (color_specs_of c.styles) i
  IsValidAt ConfigReserved i = AreZero c.reserved
  IsValidAt FileName i = HoldsIfAt HasValidName files i
  IsValidAt FileSource i = HoldsIfAt HasValidSource files i
  IsValidAt FileLines i = HoldsIfAt HasValidLines files i
  IsValidAt FileLocations i = HoldsIfAt HasValidLocations files i
  IsValidAt FileReserved i = HoldsIfAt HasZeroReserved files i
  IsValidAt Severity i = d.severity ≤ 4
  IsValidAt Code i = IsUtf8 d.code.now
  IsValidAt Message i = IsUtf8 d.message.now
  IsValidAt DiagnosticReserved i = AreZero d.reserved
  IsValidAt LabelStyle i = HoldsIfAt HasValidStyle d.labels.now i
  IsValidAt LabelMessage i = HoldsIfAt HasValidMessage d.labels.now i
  IsValidAt LabelFile i = HoldsIfAt (HasValidFile (length files)) d.labels.now i
  IsValidAt LabelReserved i = HoldsIfAt HasZeroWords d.labels.now i
  IsValidAt Note i = HoldsIfAt IsValidText d.notes.now i

  -- every argument is valid
  abbrev pub AreValid : Type 0
  AreValid = (a : Argument) (i : ℕ) → IsValidAt a i

  -- the argument, of several the one of this index, is invalid, and each one before it is valid:
  -- those of lower indices, and arguments of lower numbers
  pub record IsFirstInvalid (a : Argument) (i : ℕ) : Type 0 where
    pub invalid : ¬ IsValidAt a i
    pub before : (j : ℕ) → j < i → IsValidAt a j
    pub arguments_before : (b : Argument) (j : ℕ) → argument_number b < argument_number a
        → IsValidAt b j

  -- there is an invalid argument, and the first one is such an argument
  abbrev pub FirstInvalidIs : (Argument → Type 0) → Type 0
  FirstInvalidIs Such = (a : Argument) × (i : ℕ) × Such a × IsFirstInvalid a i

  -- the detail names the first invalid argument, by its number and its index
  pub record NamesFirstInvalid (detail : Detail) : Type 0 where
    pub argument : Argument
    pub number_is : detail.argument ≡ argument_number argument
    pub first : IsFirstInvalid argument detail.index

-- the detail that names no argument
abbrev pub no_detail : Detail
no_detail = record { argument = 0; index = 0 }

-- the status of a call whose first invalid argument is this one
abbrev pub status_for : Argument → ℕ
status_for LabelFile = FILE_MISSING
status_for _ = INVALID
