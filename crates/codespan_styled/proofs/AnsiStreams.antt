-- A text for a terminal whose characters are safe, beside what `Ansi` receives: for the clause of
-- `terminal::laws::safe_runs_are_as_written`.
use Rattle.std.proofs.Common.{◌≡◌, ℕ, List, [], ◌∷◌, ◌++◌, sym, ap, ◌∙◌}
use Rattle.std.proofs.Common.{append_assoc, append-nil}
use Rattle.codespan_base.specs.declared.term.config.styles.Styles.{Styles}
use Rattle.codespan_base.specs.Streams.{Stream, Byte, Mark, Slot, spelled}
use Rattle.codespan_base.specs.declared.term.config.style_mark.StyleMark.{StyleMark}
use Rattle.codespan_base.specs.declared.term.config.style_mark.StyleMark.TheVariants.{Reset}
use Rattle.codespan_base.specs.StyleSpellings.{ansi_spelling}
use Rattle.codespan_styled.specs.Runs.{runs_from, runs_of}
use Rattle.codespan_styled.specs.Terminal.{AreSafe, runs_bytes, terminal_text}

-- the runs of a stream after a text in a style
from_runs : (styles : Styles) (style : StyleMark) (text : List ℕ) (s : Stream)
    → AreSafe (runs_from style text s)
    → runs_bytes styles (runs_from style text s) ≡ ansi_spelling styles
    style ++ text ++ spelled (ansi_spelling styles) s
from_runs styles style text [] h =
    ap (λ (t : List ℕ). ansi_spelling styles style ++ t ++ []) h.0
from_runs styles style text (Byte b ∷ s) h =
    let prefix = ansi_spelling styles style in
    let rest = spelled (ansi_spelling styles) s in
    from_runs styles style (text ++ b ∷ []) s h
    ∙ ap (λ (l : List ℕ). l ++ rest) (sym (append_assoc prefix text (b ∷ [])))
    ∙ append_assoc (prefix ++ text) (b ∷ []) rest
from_runs styles style text (Slot k ∷ s) h = from_runs styles style text s h
from_runs styles style text (Mark m ∷ s) h =
    let prefix = ansi_spelling styles style in
    let rest = spelled (ansi_spelling styles) s in
    ap (λ (t : List ℕ). prefix ++ t ++ runs_bytes styles (runs_from m [] s)) h.0
    ∙ ap (λ (l : List ℕ). prefix ++ text ++ l)
    (from_runs styles m [] s h.1
    ∙ ap (λ (l : List ℕ). l ++ rest) (append-nil (ansi_spelling styles m)))

-- the same where the first run is plain, and has no sequence
from_plain : (styles : Styles) (text : List ℕ) (s : Stream) → AreSafe (runs_from Reset text s)
    → terminal_text styles (runs_from Reset text s) ≡ text ++ spelled (ansi_spelling styles) s
from_plain styles text [] h = ap (λ (t : List ℕ). t ++ []) h.0
from_plain styles text (Byte b ∷ s) h =
    from_plain styles (text ++ b ∷ []) s h
    ∙ append_assoc text (b ∷ []) (spelled (ansi_spelling styles) s)
from_plain styles text (Slot k ∷ s) h = from_plain styles text s h
from_plain styles text (Mark m ∷ s) h =
    let rest = spelled (ansi_spelling styles) s in
    ap (λ (t : List ℕ). t ++ runs_bytes styles (runs_from m [] s)) h.0
    ∙ ap (λ (l : List ℕ). text ++ l)
    (from_runs styles m [] s h.1
    ∙ ap (λ (l : List ℕ). l ++ rest) (append-nil (ansi_spelling styles m)))

-- the runs of a stream
pub as_written : (styles : Styles) (s : Stream) → AreSafe (runs_of s)
    → terminal_text styles (runs_of s) ≡ spelled (ansi_spelling styles) s
as_written styles s h = from_plain styles [] s h
