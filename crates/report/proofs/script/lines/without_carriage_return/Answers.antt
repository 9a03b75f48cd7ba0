use Rattle.codespan_core.proofs.Std.{lit<, Some, None}
use Rattle.std.proofs.lemmas.Str.Pattern.{strip_suffix_char}
use Rattle.report.proofs.ScriptCuts.{no_carriage_return, return_dropped}
use Rattle.report.proofs.script.lines.without_carriage_return.Goals as goal

pub returns-in-Some-clause-text : goal.returns-in-Some-clause-text
returns-in-Some-clause-text c =
    return_dropped c.args.text.now c.in-Some.front.now
    (strip_suffix_char 13 c.args.text.now (Some c.in-Some.front) c.in-Some.ensures.cases (lit< tt))

pub returns-in-None-clause-text : goal.returns-in-None-clause-text
returns-in-None-clause-text c =
    no_carriage_return c.args.text.now
    (strip_suffix_char 13 c.args.text.now None c.in-None.ensures.cases (lit< tt))
