use Rattle.codespan_output.proofs.Slots.Once as messages
use Rattle.codespan_laws.proofs.laws.messages_appear_once.Goals as goal

pub returns : goal.returns
returns g c =
    λ renderer view files d equal has_line can loci are.
    messages.messages_appear_once renderer view files d equal has_line can loci are
