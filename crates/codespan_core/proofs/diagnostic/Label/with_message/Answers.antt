use Rattle.codespan_core.proofs.diagnostic.Label.with_message.Goals as goal

-- the message is the text
pub returns-clause-message : goal.returns-clause-message
returns-clause-message g c = c.in_ok-text.ensures.text
