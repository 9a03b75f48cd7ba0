-- Text that is safe to print on a terminal.
use Rattle.std.specs.Prelude.{◌≡◌, ℕ, ◌||◌, ◌==◌, List, [], ◌∷◌, ◌++◌}
use Rattle.std.specs.Prelude.{if◌then◌else◌}
use Rattle.std.specs.Char.{is_ascii_digit}
use Rattle.std.specs.List.{AllByRecursion, flat_map}
use Rattle.std.specs.Str.{chars}
use Rattle.codespan_base.specs.StyleSpellings.{ansi_spelling}
use Rattle.codespan_base.specs.declared.term.config.style_mark.StyleMark.{StyleMark}
use Rattle.codespan_base.specs.declared.term.config.styles.Styles.{Styles}
use Rattle.codespan_styled.specs.Runs.{RunView, is_plain, run_characters}
use Rattle.codespan_styled.specs.SafeText.{AreInColumns, is_safe, safe_characters, safe_text}

-- ---- the text for a terminal

-- a run: the escape sequences of its style, and its safe text
abbrev pub run_bytes : Styles → RunView → List ℕ
run_bytes styles run = ansi_spelling styles run.style ++ safe_text run.text

-- the runs, one after another
abbrev pub runs_bytes : Styles → List RunView → List ℕ
runs_bytes styles runs = flat_map (run_bytes styles) runs

-- the sequences before the first run: a terminal is in the style of plain text already
abbrev pub first_sequences : Styles → StyleMark → List ℕ
first_sequences styles style = if is_plain style then [] else ansi_spelling styles style

-- the text for a terminal
abbrev pub terminal_text : Styles → List RunView → List ℕ
terminal_text styles [] = []
terminal_text styles (first ∷ rest) =
    first_sequences styles first.style ++ safe_text first.text ++ runs_bytes styles rest

-- ---- what a terminal shows

-- the state of a terminal: in text, after the first character of a sequence of styles, in the
-- parameters of one, or after anything else, of which nothing is claimed
pub data TerminalState : Type 0 where
  Text : TerminalState
  Escape : TerminalState
  Parameters : TerminalState
  Unknown : TerminalState

-- its state after the next character: a sequence is an escape character (0x1b), `[` (91),
-- digits and `;` (59), and `m` (109); any other character that is not safe leads to `Unknown`
abbrev pub next_state : TerminalState → ℕ → TerminalState
next_state Text c = if c == 0x1b then Escape else if is_safe c then Text else Unknown
next_state Escape c = if c == 91 then Parameters else Unknown
next_state Parameters c =
    if c == 109 then Text else if is_ascii_digit c || (c == 59) then Parameters else Unknown
next_state Unknown c = Unknown

-- its state after these characters
abbrev pub state_after : TerminalState → List ℕ → TerminalState
state_after state [] = state
state_after state (c ∷ cs) = state_after (next_state state c) cs

-- the characters that it shows: those of text outside sequences
abbrev pub visible : TerminalState → List ℕ → List ℕ
visible state [] = []
visible Text (c ∷ cs) =
    if c == 0x1b then visible Escape cs else c ∷ visible (next_state Text c) cs
visible state (c ∷ cs) = visible (next_state state c) cs

-- ---- what is claimed of a text for a terminal

-- how a terminal shows a text for these runs
pub record ShowsSafe (text : List ℕ) (runs : List RunView) : Type 0 where
  -- no sequence but those of styles, and no other character that is not safe, such as a control
  -- character or a directional control: after any of them a reader would not be in text again
  pub ends_in_text : state_after Text (chars text) ≡ Text
  -- it shows what is shown for the characters of the runs
  pub shows : visible Text (chars text) ≡ safe_characters (run_characters runs)
  -- each in the column of its character among all characters of the runs
  pub in_columns : AreInColumns (visible Text (chars text)) (run_characters runs)

-- the runs are shown as they are
abbrev pub AreSafe : List RunView → Type 0
AreSafe runs = AllByRecursion (λ (run : RunView). safe_text run.text ≡ run.text) runs
