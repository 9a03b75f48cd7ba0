-- Lemmas by which a custom writer of colors proves what it appends, re-exported one by one, so that
-- the attribute of a function can name them too.
pub use Rattle.codespan_core.proofs.AppendsBytes.{append_chains}
