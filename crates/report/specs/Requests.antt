-- What the arguments request.
use Rattle.std.specs.Prelude.{ℕ, ◌^◌, ◌&&◌, nat_lt, List, [], ◌∷◌, Option, Some}
use Rattle.std.specs.Prelude.{None, IfSome, if◌then◌else◌, Bool, false, codes}
use Rattle.std.specs.Str.{all_ascii_digits, bytes_eq}
use Rattle.std.specs.Str.Parse.{digits_value}
use Rattle.codespan_core.specs.declared.term.config.DisplayStyle.{DisplayStyle}
use Rattle.std.specs.Option.{option_map}
use Rattle.program_io.specs.Names.{display_style_named}
use Rattle.report.specs.declared.request.Request.{Request}
use Rattle.report.specs.declared.request.Request.TheVariants as variants
use Rattle.report.specs.declared.request.LabelRequest.{LabelRequest}
use Rattle.report.specs.declared.request.ScriptOutput.{ScriptOutput}
use Rattle.report.specs.declared.request.ScriptOutput.TheVariants as outputs

-- a label request by its fields, its texts as bytes
pub record LabelRequestView : Type 0 where
  pub style : DisplayStyle
  pub name : List ℕ
  pub start : ℕ
  pub end : ℕ
  pub message : List ℕ

-- the fields of a label request
abbrev pub label_request_view : LabelRequest → LabelRequestView
label_request_view label_request = record {
  style = label_request.style;
  name = label_request.name.now;
  start = label_request.start;
  end = label_request.end;
  message = label_request.message.now;
}

-- the number that is written in one or more ASCII digits, if it fits a `usize`
unfoldable pub number_of : List ℕ → Option ℕ
number_of [] = None
number_of (d ∷ ds) =
    if all_ascii_digits (d ∷ ds) && nat_lt (digits_value 10 (d ∷ ds)) (2 ^ 64)
    then Some (digits_value 10 (d ∷ ds)) else None

-- the label request with this name and this message, if there are a style, a start and an end
abbrev pub label_request_with : List ℕ → List ℕ → Option DisplayStyle → Option ℕ
    → Option ℕ
    → Option LabelRequestView
label_request_with name message (Some style) (Some start) (Some end) =
    Some (record { style = style; name = name; start = start; end = end; message = message })
label_request_with name message (Some style) (Some start) None = None
label_request_with name message (Some style) None end = None
label_request_with name message None start end = None

-- the label request that the arguments are: a style, a name, two numbers and a message
unfoldable pub label_request_of : List (List ℕ) → Option LabelRequestView
label_request_of (style ∷ name ∷ start ∷ end ∷ message ∷ []) =
    label_request_with name message (display_style_named style) (number_of start) (number_of end)
label_request_of _ = None

-- whether the arguments request the version: the one word `--version`
unfoldable pub requests_version : List (List ℕ) → Bool
requests_version (word ∷ []) = bytes_eq word (codes "--version")
requests_version _ = false

-- what is written of a script, by its name: `apply`, `diff`, or that of a display style
unfoldable pub script_output_named : List ℕ → Option ScriptOutput
script_output_named text =
    if bytes_eq text (codes "apply") then Some outputs.Applied
    else if bytes_eq text (codes "diff") then Some outputs.UnifiedDiff
    else option_map outputs.Rendered (display_style_named text)

-- what a run writes: an error with one label over the input, or an output of the script at the
-- start of the input, over a file with a name
pub data RequestView : Type 0 where
  OneLabel : LabelRequestView → RequestView
  OfScript : ScriptOutput → List ℕ → RequestView

-- a request, its texts as bytes
abbrev pub request_view : Request → RequestView
request_view (variants.OneLabel label_request) = OneLabel (label_request_view label_request)
request_view (variants.OfScript output name) = OfScript output name.now

-- what the arguments request: with two of them a script, with five an error with one label
unfoldable pub request_of : List (List ℕ) → Option RequestView
request_of (output ∷ name ∷ []) = option_map (λ o. OfScript o name)
    (script_output_named output)
request_of args = option_map OneLabel (label_request_of args)

-- the fact holds of what the arguments request and of the bytes that the reader has, where both are
-- known
abbrev pub WhereKnown : List (List ℕ) → Option (List ℕ)
    → (RequestView → List ℕ → Type 0) → Type 0
WhereKnown args bytes P = IfSome (request_of args) (λ request. IfSome bytes (P request))
