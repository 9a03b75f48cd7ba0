use Rattle.std.proofs.Common.{rules}
use Rattle.std.proofs.lemmas.Slice.Eq.{starts_is}
use Rattle.std.proofs.lemmas.Bool.Decides.{Decides-eqb}
use Rattle.alloc_failures.proofs.rendering.is_prefix.Goals as goal

-- the bytes are a prefix of the text, and what is left of it is the rest
pub returns : goal.returns
returns c t =
    search (
      rules,
      (starts_is Decides-eqb c.as_bytes.result.now c.args.bytes.now _
          c.starts_with.ensures.value).0,
      c.as_bytes.ensures.value,
      t,
    )
