use Rattle.codespan_core.proofs.Std.{string_bytes, ap, ◌∙◌, bytes_eq, codes, inl, inr}
use Rattle.report.proofs.Arguments.{one_argument, not_one_argument}
use Rattle.report.proofs.version.is_version_requested.Goals as goal

pub returns-in-len1 : goal.returns-in-len1
returns-in-len1 c =
    c.eq.ensures
    ∙ ap (λ text. bytes_eq text (codes "--version")) c.as_str.ensures.value
    ∙ one_argument string_bytes c.args.args.now c.word-item.result c.in-len1.len_at_least
    c.in-len1.len_below c.word-item.is

pub returns-in_default : goal.returns-in_default
returns-in_default c =
    not_one_argument string_bytes c.args.args.now (inl c.in_default.len_below)

pub returns-in_default-2 : goal.returns-in_default-2
returns-in_default-2 c =
    not_one_argument string_bytes c.args.args.now (inr c.in_default.len_at_least)
