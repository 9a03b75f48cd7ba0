use Rattle.codespan_core.proofs.Std.{◌≡◌, ◌+◌, lit<, length, Some, None, sym, arith}
use Rattle.codespan_core.proofs.Std.{position_or_len, drop_all, take_all}
use Rattle.std.proofs.lemmas.Str.Pattern.{split_once_first}
use Rattle.program_io.specs.Fields.{is_space}
use Rattle.program_io.proofs.fields.split_field.Goals as goal

-- the text is cut at its first space
pub returns-in-Some-clause-before : goal.returns-in-Some-clause-before
returns-in-Some-clause-before c =
    let parts = split_once_first 32 c.args.text.now (Some (c.in-Some.before, c.in-Some.after))
    c.in-Some.ensures.cases (lit< tt) in
    parts.1

pub returns-in-Some-clause-after : goal.returns-in-Some-clause-after
returns-in-Some-clause-after c =
    let parts = split_once_first 32 c.args.text.now (Some (c.in-Some.before, c.in-Some.after))
    c.in-Some.ensures.cases (lit< tt) in
    parts.2

-- a text without a space is not cut
pub returns-in-None-clause-before : goal.returns-in-None-clause-before
returns-in-None-clause-before c =
    let text = c.args.text.now in
    let none : position_or_len is_space text ≡ length text =
    split_once_first 32 text None c.in-None.ensures.cases (lit< tt) in
    sym (take_all (position_or_len is_space text) text (omega arith))

pub returns-in-None-clause-after : goal.returns-in-None-clause-after
returns-in-None-clause-after c =
    let text = c.args.text.now in
    let none : position_or_len is_space text ≡ length text =
    split_once_first 32 text None c.in-None.ensures.cases (lit< tt) in
    sym (drop_all (position_or_len is_space text + 1) text (omega arith))
