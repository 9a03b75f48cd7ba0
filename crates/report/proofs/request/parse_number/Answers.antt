use Rattle.codespan_core.proofs.Std.{◌≡◌, sym, ◌∙◌, rules, tests}
use Rattle.std.specs.Char.{is_ascii_digit}
use Rattle.std.specs.Str.{all_ascii_digits}
use Rattle.std.proofs.lemmas.Iterator.Search.{all_from_yields_List}
use Rattle.std.proofs.lemmas.Iterator.Adapters.{YieldsList-from_bytes}
use Rattle.report.proofs.Numbers.{digits_are, number_of-others, number_of-parsed}
use Rattle.report.proofs.request.parse_number.Goals as goal

pub returns-then-all : goal.returns-then-all
returns-then-all c =
    let text = c.args.text.now in
    let all : c.all.result ≡ all_ascii_digits text =
    all_from_yields_List is_ascii_digit _ _ _ c.all.ensures.ran (YieldsList-from_bytes text cc)
    (λ x b q k. search (rules, tests))
    ∙ digits_are text in
    c.ok.ensures.value
    ∙ number_of-parsed text c.parse.result (sym all ∙ c.if-all.true) c.parse.ensures.value.0

pub returns-else-all : goal.returns-else-all
returns-else-all c =
    let text = c.args.text.now in
    let all : c.all.result ≡ all_ascii_digits text =
    all_from_yields_List is_ascii_digit _ _ _ c.all.ensures.ran (YieldsList-from_bytes text cc)
    (λ x b q k. search (rules, tests))
    ∙ digits_are text in
    number_of-others text (sym all ∙ c.if-all.false)
