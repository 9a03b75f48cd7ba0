-- What the arguments request.
use Rattle.std.specs.Prelude.{ℕ, List, [], ◌∷◌, codes, Option, Some, None}
use Rattle.std.specs.Prelude.{if◌then◌else◌}
use Rattle.std.specs.Option.{option_map}
use Rattle.std.specs.Str.{bytes_eq}
use Rattle.gallery_cases.specs.declared.request.Format.{Format}
use Rattle.gallery_cases.specs.declared.request.Format.TheVariants.{Html, Svg, Terminal}
use Rattle.gallery_cases.specs.declared.request.Request.{Request}
use Rattle.gallery_cases.specs.declared.request.Request.TheVariants as requests

-- the format with this name
abbrev pub format_named : List ℕ → Option Format
format_named name =
    if bytes_eq name (codes "svg") then Some Svg
    else if bytes_eq name (codes "html") then Some Html
    else if bytes_eq name (codes "terminal") then Some Terminal
    else None

-- a request: every case, the style sheet of HTML elements, or the case with a name in a format
pub data GalleryRequestView : Type 0 where
  All : GalleryRequestView
  Styles : GalleryRequestView
  Document : Format → List ℕ → GalleryRequestView

-- what the arguments request: without any, every case; with `styles`, the style sheet; with
-- `FORMAT NAME`, the case in that format; with any others, nothing
abbrev pub gallery_request_of : List (List ℕ) → Option GalleryRequestView
gallery_request_of [] = Some All
gallery_request_of (arg ∷ []) = if bytes_eq arg (codes "styles") then Some Styles else None
gallery_request_of (format ∷ name ∷ []) =
    option_map (λ f. Document f name) (format_named format)
gallery_request_of (format ∷ name ∷ more ∷ rest) = None

-- a request, its name as bytes
abbrev pub gallery_request_view : Request → GalleryRequestView
gallery_request_view requests.All = All
gallery_request_view requests.Styles = Styles
gallery_request_view (requests.Document format name) = Document format name.now
