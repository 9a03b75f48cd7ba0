use Rattle.std.proofs.Common.{◌≤◌, All, length}
use Rattle.examples.proofs.config.front_end.lex.Given as goal

-- the tokens so far are inside the text
abbrev pub invariant-loop-index : goal.invariant-loop-index
invariant-loop-index l = All (λ token. token.end ≤ length l.text) l.tokens.items
