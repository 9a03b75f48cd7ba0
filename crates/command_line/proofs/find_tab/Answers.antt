use Rattle.std.proofs.Common.{None, Some, arith}
use Rattle.std.proofs.lemmas.Str.Pattern.{find_char}
use Rattle.command_line.proofs.find_tab.Goals as goal

-- where no tab is found the text has none
pub returns-in_err-start-clause-none : goal.returns-in_err-start-clause-none
returns-in_err-start-clause-none c = λ none tab.
    find_char 9 c.args.text.now None c.in_err-start.ensures.cases (omega arith) tab.0 tab.1.0
    tab.1.1

-- no byte before the first tab is one
pub returns-clause-first : goal.returns-clause-first
returns-clause-first c = λ i before tab.
    (find_char 9 c.args.text.now (Some c.in_ok-start.start) c.in_ok-start.ensures.cases
    (omega arith)).2
    i before tab.1
