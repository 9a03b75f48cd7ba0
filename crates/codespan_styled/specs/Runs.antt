-- Styled text: the runs of a stream, which is its text cut at its style marks.
use Rattle.std.specs.Prelude.{ℕ, Bool, true, false, List, [], ◌∷◌, ◌++◌, map}
use Rattle.std.specs.Prelude.{string_bytes}
use Rattle.std.specs.List.{AllByRecursion, flat_map}
use Rattle.std.specs.Str.{IsUtf8, chars}
use Rattle.codespan_base.specs.Streams.{Stream, Byte, Mark, Slot}
use Rattle.codespan_base.specs.declared.term.config.style_mark.StyleMark.{StyleMark}
use Rattle.codespan_base.specs.declared.term.config.style_mark.StyleMark.TheVariants.{Reset}
use Rattle.codespan_styled.specs.declared.text.Run.{Run}
use Rattle.codespan_styled.specs.declared.text.StyledText.{StyledText}

-- the style mark that a text follows, and the bytes of the text
pub record RunView : Type 0 where
  pub style : StyleMark
  pub text : List ℕ

-- the text after the style mark is plain: the style mark is a reset
abbrev pub is_plain : StyleMark → Bool
is_plain Reset = true
is_plain _ = false

-- the runs of a stream that continues a run after this style mark, with this text so far: a byte
-- belongs to the run, a style mark ends it and starts the next one
abbrev pub runs_from : StyleMark → List ℕ → Stream → List RunView
runs_from style text [] = record { style = style; text = text } ∷ []
runs_from style text (Byte b ∷ s) = runs_from style (text ++ b ∷ []) s
runs_from style text (Mark m ∷ s) =
    record { style = style; text = text } ∷ runs_from m [] s
runs_from style text (Slot k ∷ s) = runs_from style text s

-- the runs of a stream; the first one is as after a reset
abbrev pub runs_of : Stream → List RunView
runs_of s = runs_from Reset [] s

-- the texts of runs, one after another
abbrev pub joined : List RunView → List ℕ
joined runs = flat_map (λ (run : RunView). run.text) runs

-- the characters of the runs
abbrev pub run_characters : List RunView → List ℕ
run_characters runs = flat_map (λ (run : RunView). chars run.text) runs

-- the text of each run is UTF-8
abbrev pub TextsAreUtf8 : List RunView → Type 0
TextsAreUtf8 runs = AllByRecursion (λ (run : RunView). IsUtf8 run.text) runs

-- ---- the runs of a styled text

-- a run, its text as bytes
abbrev pub run_view : Run → RunView
run_view run = record { style = run.style; text = string_bytes run.text }

-- the runs of a styled text
abbrev pub styled_runs : StyledText → List RunView
styled_runs text = map run_view text.runs.items
