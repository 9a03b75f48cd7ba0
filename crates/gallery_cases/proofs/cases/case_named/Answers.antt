use Rattle.std.proofs.Common.{◌≡◌, ℕ, List, [], ◌∷◌, Some, refl, ap, ◌∙◌, rules}
use Rattle.std.proofs.Common.{tests}
use Rattle.std.specs.List.{find}
use Rattle.std.specs.Prelude.{if◌then◌else◌}
use Rattle.std.specs.Str.{bytes_eq}
use Rattle.std.proofs.lemmas.Iterator.{YieldsList-from_slice}
use Rattle.std.proofs.lemmas.Iterator.Search.{find_from_yields_List}
use Rattle.gallery_cases.specs.declared.case.Case.{Case}
use Rattle.gallery_cases.specs.Cases.{case_named}
use Rattle.gallery_cases.proofs.cases.case_named.Goals as goal

-- the first case of which the test is true is the one with the name
found : (name : List ℕ) (cases : List Case)
    → find (λ case. bytes_eq case.name.now name) cases ≡ case_named name cases
found name [] = refl
found name (case ∷ cases) =
    ap (λ later. if bytes_eq case.name.now name then Some case else later) (found name cases)

pub returns : goal.returns
returns c =
    let name = c.args.name.now in
    find_from_yields_List (λ (case : Case). bytes_eq case.name.now name) _ _ c.find.result
    c.find.ensures.ran (YieldsList-from_slice c.args.cases.now cc)
    (λ x b q k. search (rules, tests))
    ∙ found name c.args.cases.now
