-- Lemmas by which implementations of `Files`, and what they call, are proved. A reader may skip
-- them: no clause names what is defined here.
pub mod Lines
pub use Rattle.codespan_core.specs.Lemmas.Simple
pub mod Mapped
pub use Rattle.codespan_core.specs.Lemmas.Missing
