use Rattle.examples.proofs.several.render_all.Goals as goal

-- the string was empty
pub returns : goal.returns
returns c = rw c.new-text.ensures.bytes at c.in_ok-append_all.ensures
