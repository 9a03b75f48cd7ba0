-- Lemmas by which a custom writer proves that it spells style marks, re-exported one by one, so
-- that the attribute of a function can name them too.
pub use Rattle.codespan_core.proofs.StyleMarks.{spelled_style_marks, Writes-style_mark}
pub use Rattle.codespan_core.proofs.StyleMarks.{is_known_contents, appended_written, prefix_written}
