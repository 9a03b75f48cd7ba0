-- Documents: the output of a case in colors, as SVG, as an HTML element or as text for a terminal.
use Rattle.std.specs.Prelude.{◌≡◌, ℕ, List, ◌++◌, flat_map}
use Rattle.codespan_base.specs.declared.term.config.Config.{Config}
use Rattle.codespan_base.specs.declared.diagnostic.Diagnostic.{Diagnostic}
use Rattle.codespan_base.specs.FileModel.{FileDatabase}
use Rattle.codespan_base.specs.StyleSpellings.{default_styles}
use Rattle.codespan_output.specs.Lookups.{AllSucceed, lookups_in}
use Rattle.codespan_output.specs.Picture.{picture}
use Rattle.codespan_styled.specs.Glyphs.{glyphs_of}
use Rattle.codespan_styled.specs.Html.{html_element}
use Rattle.codespan_styled.specs.Runs.{RunView, runs_of}
use Rattle.codespan_styled.specs.Svg.{svg_document}
use Rattle.codespan_styled.specs.Terminal.{terminal_text}
use Rattle.codespan_suggestions.specs.SuggestionOutput.{suggestion_stream}
use Rattle.codespan_suggestions.specs.declared.suggestion.Suggestion.{Suggestion}
use Rattle.gallery_cases.specs.declared.case.Case.{Case}
use Rattle.gallery_cases.specs.declared.request.Format.{Format}
use Rattle.gallery_cases.specs.declared.request.Format.TheVariants.{Html, Svg, Terminal}
use Rattle.gallery_cases.specs.CaseOutputs.{HoldsOfCase}

-- the runs of the outputs of suggestions, one below the other
abbrev pub suggestion_runs : {Id : Type 0} → Config → FileDatabase Id
    → List (Suggestion Id) → List RunView
suggestion_runs config files suggestions =
    flat_map (λ (s : Suggestion _). runs_of (suggestion_stream config files s)) suggestions

-- the runs are those of the output of a diagnostic, no lookup of which fails, and then those of the
-- outputs of suggestions
pub record AreRunsOver {Id : Type 0} (config : Config) (files : FileDatabase Id)
    (d : Diagnostic Id) (suggestions : List (Suggestion Id)) (runs : List RunView) : Type 0 where
  pub lookups_succeed : AllSucceed files.failure (lookups_in config.display_style config files d)
  pub are : runs ≡ runs_of (picture config.display_style config config files d)
      ++ suggestion_runs config files suggestions

-- the runs are those of the output of a case
abbrev pub AreRunsOf : Case → List RunView → Type 0
AreRunsOf case runs =
    HoldsOfCase case.database_kind case (λ Id database diagnostic suggestions.
    AreRunsOver case.config database diagnostic suggestions runs)

-- a document of runs, in the default styles
abbrev pub document_of : Format → List RunView → List ℕ
document_of Svg runs = svg_document (glyphs_of default_styles runs)
document_of Html runs = html_element runs
document_of Terminal runs = terminal_text default_styles runs

-- the document shows the output of a case
pub record IsDocument (format : Format) (case : Case) (document : List ℕ) : Type 0 where
  pub runs : List RunView
  pub are_runs : AreRunsOf case runs
  pub is : document ≡ document_of format runs

-- the document is the SVG document of a case
abbrev pub IsSvg : Case → List ℕ → Type 0
IsSvg case document = IsDocument Svg case document

-- it has been appended
abbrev pub AppendsSvg : Case → List ℕ → List ℕ → Type 0
AppendsSvg case old new = (document : List ℕ) × (new ≡ old ++ document) × IsSvg case document
