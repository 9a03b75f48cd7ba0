use Rattle.std.proofs.Common.{◌≡◌, ◌<◌, ◌≤◌, true, List, [], ◌∷◌, length}
use Rattle.std.proofs.Common.{get_or, map, codes, None, Some, ap, sym, ◌∙◌, arith}
use Rattle.std.proofs.Common.{string_bytes}
use Rattle.std.specs.Global.{Global}
use Rattle.std.specs.Prelude.{if◌then◌else◌}
use Rattle.std.specs.Str.{bytes_eq}
use Rattle.std.specs.declared.string.String.{String}
use Rattle.gallery_cases.specs.Requests.{gallery_request_of}
use Rattle.gallery_cases.specs.Requests.GalleryRequestView.{Styles}
use Rattle.gallery_cases.proofs.request.Request.from_arguments.Goals as goal

-- the one argument is `styles`
styles_requested : (args : List (String Global)) (arg : String Global) → 1 ≤ length args
    → length args < 2 → arg ≡ get_or args 0 arg
    → bytes_eq (string_bytes arg) (codes "styles") ≡ true
    → Some Styles ≡ gallery_request_of (map string_bytes args)
styles_requested [] arg some one is same = absurd (omega (arith, some))
styles_requested (first ∷ []) arg some one is same =
    ap (λ found. if found then Some Styles else None)
    (sym same ∙ ap (λ (w : String Global). bytes_eq (string_bytes w) (codes "styles")) is)
styles_requested (first ∷ second ∷ rest) arg some one is same = absurd (omega (arith, one))

pub returns-in-len1 : goal.returns-in-len1
returns-in-len1 c =
    styles_requested c.args.args.now c.arg-item.result c.in-len1.len_at_least c.in-len1.len_below
    c.arg-item.is
    (ap (λ text. bytes_eq text (codes "styles")) (sym c.as_str.ensures.value) ∙ sym c.eq.ensures
    ∙ c.if-eq.true)
