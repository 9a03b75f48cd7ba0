-- The output of a diagnostic over one file, and what a run renders.
use Rattle.std.specs.Prelude.{◌≡◌, ℕ, true, List, [], ◌∷◌, ◌++◌, map, flat_map}
use Rattle.std.specs.Prelude.{filter, Option, Some, None}
use Rattle.std.specs.Prelude.{Result, Ok, Err, codes}
use Rattle.std.specs.Prelude.{string_bytes}
use Rattle.codespan_core.specs.declared.term.config.Config.{Config}
use Rattle.codespan_core.specs.declared.term.config.DisplayStyle.{DisplayStyle}
use Rattle.codespan_core.specs.declared.term.config.DisplayStyle.TheVariants as styles
use Rattle.codespan_edits.specs.DrawnRows.{Context, diff_hunks}
use Rattle.codespan_edits.specs.Edits.{TextEdit, edited}
use Rattle.codespan_suggestions.specs.DrawnFiles.{DrawnFile, context_of, drawn, has_hunk}
use Rattle.codespan_suggestions.specs.SuggestionOutput.{output_of}
use Rattle.codespan_suggestions.specs.UnifiedDiffs.{patch_context, patch_text}
use Rattle.codespan_suggestions.specs.Views.{SuggestionView}
use Rattle.codespan_core.specs.Defaults.{default_config}
use Rattle.codespan_core.specs.Diagnostics.{DiagnosticView}
use Rattle.codespan_core.specs.FileModel.{FileModel}
use Rattle.codespan_core.specs.SimpleModel.{simple_file}
use Rattle.codespan_core.specs.Streams.{text_of}
use Rattle.codespan_output.specs.Picture.{picture_of_diagnostic_view}
use Rattle.report.specs.declared.report_error.ReportError.{ReportError}
use Rattle.report.specs.declared.report_error.ReportError.TheVariants as report_errors
use Rattle.report.specs.declared.request.ScriptOutput.{ScriptOutput}
use Rattle.report.specs.declared.request.ScriptOutput.TheVariants as outputs
use Rattle.report.specs.declared.script.Fault.{Fault}
use Rattle.report.specs.Requests.{RequestView}
use Rattle.report.specs.ReportDiagnostics.{label_request_diagnostic, fault_diagnostic}
use Rattle.report.specs.Requests.RequestView.{OneLabel, OfScript}
use Rattle.report.specs.Scripts.{ScriptView, parsed_script}

-- ---- the output of a diagnostic

-- the configuration: the default one, in this display style, with rows that should fit this width
abbrev pub report_config : DisplayStyle → Option ℕ → Config
report_config style max_width =
    record default_config { display_style = style; max_width = max_width }

-- the only file of a database: it has this name and this source, whatever the id
abbrev pub only_file : List ℕ → List ℕ → Unit {0} → FileModel
only_file name source id = simple_file (Some name) source

-- the text of the diagnostic's output, in a style and a width, over the file of a name and a source
unfoldable pub output_text : DisplayStyle → Option ℕ → List ℕ → List ℕ
    → DiagnosticView (Unit {0})
    → List ℕ
output_text style max_width name source diagnostic =
    text_of
    (picture_of_diagnostic_view (report_config style max_width) (λ i j. true)
    (only_file name source) diagnostic)

-- ---- the output of a suggestion

-- the file of a suggestion as its output shows it: it is not shown where no row of its diff is
-- drawn, nor without edits
abbrev pub shown_files : Context → FileModel → List TextEdit → List DrawnFile
shown_files context file [] = []
shown_files context file (edit ∷ edits) =
    filter has_hunk (drawn context file (edit ∷ edits) ∷ [])

-- the text of a suggestion's output, in a style and a width, over the file of a name and a source
unfoldable pub suggestion_text : DisplayStyle → Option ℕ → List ℕ → List ℕ
    → SuggestionView (Unit {0})
    → List ℕ
suggestion_text style max_width name source suggestion =
    let config = report_config style max_width in
    text_of (output_of config suggestion.message
    (shown_files (context_of config) (only_file name source tt)
    (map (λ edit. edit.edit) suggestion.edits)))

-- ---- what a run renders

-- the diagnostic of a script in a style, and below it each suggestion, all in the script's width
abbrev pub rendered_script : DisplayStyle → List ℕ → ScriptView → List ℕ
rendered_script style name script =
    output_text style script.max_width name script.source script.diagnostic
    ++ flat_map (suggestion_text style script.max_width name script.source) script.suggestions

-- the source of a script after the edits of its first suggestion, or the source without one
abbrev pub source_after : List ℕ → List (SuggestionView (Unit {0})) → List ℕ
source_after source [] = source
source_after source (suggestion ∷ others) =
    edited source (map (λ edit. edit.edit) suggestion.edits)

abbrev pub applied_source : ScriptView → List ℕ
applied_source script = source_after script.source script.suggestions

-- the unified diff that edits make of a source, as the file of this name; without edits nothing
abbrev pub diff_of_edits : List ℕ → List ℕ → List TextEdit → List ℕ
diff_of_edits name source [] = []
diff_of_edits name source (edit ∷ edits) =
    patch_text name (diff_hunks patch_context source (edit ∷ edits))

-- that of the first suggestion, or nothing without one
abbrev pub first_diff : List ℕ → List ℕ → List (SuggestionView (Unit {0})) → List ℕ
first_diff name source [] = []
first_diff name source (suggestion ∷ others) =
    diff_of_edits name source (map (λ edit. edit.edit) suggestion.edits)

abbrev pub script_diff : List ℕ → ScriptView → List ℕ
script_diff name script = first_diff name script.source script.suggestions

-- what is written of a script
abbrev pub script_output : ScriptOutput → List ℕ → ScriptView → List ℕ
script_output (outputs.Rendered style) name script = rendered_script style name script
script_output outputs.Applied name script = applied_source script
script_output outputs.UnifiedDiff name script = script_diff name script

-- the display style of a script's error
abbrev pub error_style : ScriptOutput → DisplayStyle
error_style (outputs.Rendered style) = style
error_style outputs.Applied = styles.Rich
error_style outputs.UnifiedDiff = styles.Rich

-- what is written of an input that was read as a script: the output of that script, or its error
-- over the whole input
abbrev pub rendering_of_script : ScriptOutput → List ℕ → List ℕ → Result ScriptView Fault
    → Result (List ℕ) (List ℕ)
rendering_of_script output name input (Ok script) = Ok (script_output output name script)
rendering_of_script output name input (Err fault) =
    Err (output_text (error_style output) None (codes "script") input (fault_diagnostic fault))

-- what is written of an input: `Ok` what goes to the output, `Err` the diagnostic of a script's
-- error
abbrev pub rendering_of : RequestView → List ℕ → Result (List ℕ) (List ℕ)
rendering_of (OneLabel label_request) input =
    Ok
    (output_text label_request.style None label_request.name input
    (label_request_diagnostic label_request))
rendering_of (OfScript output name) input =
    rendering_of_script output name input (parsed_script input)

-- the error of rendering: it failed, or the script has the error of this diagnostic
abbrev pub IsRenderError : Result (List ℕ) (List ℕ) → ReportError → Type 0
IsRenderError rendering (report_errors.CannotRender error) = Unit {0}
IsRenderError rendering (report_errors.BadScript text) = rendering ≡ Err (string_bytes text)
