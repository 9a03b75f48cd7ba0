-- The output of every case, each under its name.
use Rattle.std.specs.Prelude.{◌≡◌, ℕ, ◌==◌, List, [], ◌∷◌, ◌++◌, codes}
use Rattle.std.specs.Prelude.{Result, Ok, Err, IfSome, OnOk, if◌then◌else◌}
use Rattle.std.specs.List.{flat_map}
use Rattle.codespan_suggestions.specs.Errors.{error_text}
use Rattle.codespan_suggestions.specs.declared.error.SuggestionError.{SuggestionError}
use Rattle.gallery_cases.specs.declared.case.Case.{Case}
use Rattle.gallery_cases.specs.declared.case.ColorChoice.TheVariants.{Plain, Svg}
use Rattle.gallery_cases.specs.CaseOutputs.{IsCaseOutput}
use Rattle.gallery_cases.specs.Documents.{IsSvg}

-- the heading of a case
abbrev pub heading : List ℕ → List ℕ
heading name = codes "== " ++ name ++ 10 ∷ []

-- a byte of an output, escaped if it is that of the escape character, the null character, the
-- carriage return or the tab
abbrev pub escaped_byte : ℕ → List ℕ
escaped_byte b =
    if b == 27 then codes "\\e"
    else if b == 0 then codes "\\0"
    else if b == 13 then codes "\\r"
    else if b == 9 then codes "\\t"
    else b ∷ []

-- an output with these bytes escaped
abbrev pub with_escapes : List ℕ → List ℕ
with_escapes output = flat_map escaped_byte output

-- the line of a case that failed: nothing if it did not, else a line with the error's text
abbrev pub IsErrorLine : Result (Unit {0}) SuggestionError → List ℕ → Type 0
IsErrorLine (Ok done) error_line = error_line ≡ []
IsErrorLine (Err error) error_line =
    IfSome (error_text error) (λ text. error_line ≡ codes "failed: " ++ text ++ 10 ∷ [])

-- the section of a case after its heading: the output, escaped, and, if rendering failed, a line
-- with the error; in plain text the output is the rendered case, and as SVG the document that shows
-- it
pub record IsSection (case : Case) (text : List ℕ) : Type 0 where
  pub rendered : Result (Unit {0}) SuggestionError
  pub output : List ℕ
  pub error_line : List ℕ
  pub is : text ≡ with_escapes output ++ error_line
  pub is_error_line : IsErrorLine rendered error_line
  pub plain : case.colors ≡ Plain → OnOk rendered (IsCaseOutput case output)
  pub document : case.colors ≡ Svg → OnOk rendered (IsSvg case output)

-- the text has the cases in their order, each as its heading and its section
abbrev pub IsGallery : List Case → List ℕ → Type 0
IsGallery [] text = text ≡ []
IsGallery (case ∷ cases) text =
    (section : List ℕ) × (left : List ℕ) × (text ≡ heading case.name.now ++ section ++ left)
    × IsSection case section × IsGallery cases left
