-- The response to what the arguments request, and why a request fails.
use Rattle.std.specs.Prelude.{◌≡◌, ℕ, List, [], Option, Some, None, IsSomeAnd, string_bytes}
use Rattle.std.specs.Str.Lines.{lines}
use Rattle.codespan_base.specs.StyleSpellings.{default_styles}
use Rattle.codespan_styled.specs.StyleSheet.{style_sheet}
use Rattle.gallery_cases.specs.declared.case.Case.{Case}
use Rattle.gallery_cases.specs.declared.errors.GalleryError.{GalleryError}
use Rattle.gallery_cases.specs.declared.errors.GalleryError.TheVariants.{CannotRender, Line}
use Rattle.gallery_cases.specs.declared.errors.GalleryError.TheVariants.{UnknownCase}
use Rattle.gallery_cases.specs.declared.request.Format.{Format}
use Rattle.gallery_cases.specs.Cases.{IsFirstLineError, AppliesLines, case_named}
use Rattle.gallery_cases.specs.Requests.{GalleryRequestView}
use Rattle.gallery_cases.specs.Requests.GalleryRequestView.{All, Styles, Document}
use Rattle.gallery_cases.specs.Galleries.{IsGallery}
use Rattle.gallery_cases.specs.Documents.{IsDocument}
use Rattle.program_io.specs.declared.run_error.RunError.{RunError}
use Rattle.program_io.specs.declared.run_error.RunError.TheVariants.{Program, OutOfMemory}

-- the bytes are what is requested of cases
abbrev pub IsResponseOf : GalleryRequestView → List Case → List ℕ → Type 0
IsResponseOf All cases bytes = IsGallery cases bytes
IsResponseOf Styles cases bytes = bytes ≡ style_sheet default_styles
IsResponseOf (Document format name) cases bytes =
    IsSomeAnd (case_named name cases) (λ case. IsDocument format case bytes)

-- the bytes are what is requested of an input
abbrev pub IsResponse : GalleryRequestView → List ℕ → List ℕ → Type 0
IsResponse request input bytes =
    (cases : List Case) × AppliesLines (lines input) [] cases × IsResponseOf request cases bytes

-- why a request of cases fails: no case has the name, rendering failed, or an allocation failed
abbrev pub IsResponseError : GalleryRequestView → List Case → RunError GalleryError → Type 0
IsResponseError request cases (Program (UnknownCase name)) =
    (format : Format) × (request ≡ Document format (string_bytes name))
    × (case_named (string_bytes name) cases ≡ None)
IsResponseError request cases (Program (CannotRender error)) = Unit {0}
IsResponseError request cases OutOfMemory = Unit {0}
IsResponseError request cases _ = ⊥

-- what an error says of the input: that of a line is of the first wrong line, and no case has an
-- unknown name
abbrev pub IsGalleryRunError : Option GalleryRequestView → RunError GalleryError → List ℕ
    → Type 0
IsGalleryRunError request (Program (Line number line_error)) input =
    IsFirstLineError (lines input) (Program (Line number line_error))
IsGalleryRunError request (Program (UnknownCase name)) input =
    (format : Format) × (request ≡ Some (Document format (string_bytes name)))
    × ((cases : List Case) × AppliesLines (lines input) [] cases
    × (case_named (string_bytes name) cases ≡ None))
IsGalleryRunError request _ input = Unit {0}
