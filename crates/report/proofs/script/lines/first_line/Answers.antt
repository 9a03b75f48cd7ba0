use Rattle.codespan_core.proofs.Std.{lit<, Some, None}
use Rattle.std.proofs.lemmas.Str.Pattern.{split_parts}
use Rattle.report.proofs.ScriptCuts.{first_then, last_line}
use Rattle.report.proofs.script.lines.first_line.Goals as goal

pub returns-in-Some-clause-line : goal.returns-in-Some-clause-line
returns-in-Some-clause-line c =
    let parts = split_parts 10 c.args.left.now (Some (c.in-Some.text, c.in-Some.after))
    c.in-Some.ensures.cases (lit< tt) in
    rw c.without_carriage_return.ensures.text
    (first_then c.args.size c.args.left.now c.in-Some.text.now c.in-Some.after.now c.requires
    parts.0 parts.1)

pub returns-in-None-clause-line : goal.returns-in-None-clause-line
returns-in-None-clause-line c =
    last_line c.args.size c.args.left.now c.requires
    (split_parts 10 c.args.left.now None c.in-None.ensures.cases (lit< tt))
