-- Lemmas by which implementations of `Files`, and what they call, are proved. A reader may skip
-- them: no clause names what is defined here.
pub mod Lines
pub mod Simple
pub mod Missing
