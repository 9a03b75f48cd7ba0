-- How runs of text are read on a terminal: for the clause `safe` of `to_terminal`.
use Rattle.std.proofs.Common.{◌≡◌, ℕ, ◌+◌, ◌<◌, Bool, true, false, ◌&&◌, List}
use Rattle.std.proofs.Common.{[], ◌∷◌, ◌++◌, map, codes, decimal, Option, Some, None}
use Rattle.std.proofs.Common.{refl, sym, ap, subst, ◌∙◌, append_assoc, append-nil, arith}
use Rattle.std.specs.Fmt.{digits}
use Rattle.std.specs.List.{list_all}
use Rattle.std.specs.Str.{IsAscii, chars}
use Rattle.std.proofs.lemmas.Bool.{and_parts, cond_both}
use Rattle.std.proofs.lemmas.Bool.Decides.{nat_tests}
use Rattle.std.proofs.lemmas.List.Elements.{filter_map-append}
use Rattle.std.proofs.lemmas.List.Folds.{list_all-append}
use Rattle.std.proofs.lemmas.Str.{IsUtf8-string_bytes}
use Rattle.std.proofs.lemmas.Str.Ascii.{IsAscii-cons, IsAscii-nil}
use Rattle.codespan_base.specs.declared.term.config.color.Color.{Color}
use Rattle.codespan_base.specs.declared.term.config.color.Color.TheVariants.{Black, Red, Green}
use Rattle.codespan_base.specs.declared.term.config.color.Color.TheVariants.{Yellow, Blue, Magenta}
use Rattle.codespan_base.specs.declared.term.config.color.Color.TheVariants.{Cyan, White}
use Rattle.codespan_base.specs.declared.term.config.color.ColorSpec.{ColorSpec}
use Rattle.codespan_base.specs.declared.term.config.styles.Styles.{Styles}
use Rattle.codespan_base.specs.Ansi.{ansi_bold, ansi_color, ansi_reset, ansi_style, color_number}
use Rattle.codespan_base.specs.Ansi.{escape}
use Rattle.codespan_base.specs.StyleSpellings.{header_color_spec, label_color_spec, ansi_spelling}
use Rattle.codespan_base.specs.declared.term.config.style_mark.StyleMark.{StyleMark}
use Rattle.codespan_base.specs.declared.term.config.style_mark.StyleMark.TheVariants.{Header}
use Rattle.codespan_base.specs.declared.term.config.style_mark.StyleMark.TheVariants.{HeaderMessage}
use Rattle.codespan_base.specs.declared.term.config.style_mark.StyleMark.TheVariants.{LineNumber}
use Rattle.codespan_base.specs.declared.term.config.style_mark.StyleMark.TheVariants.{NoteBullet}
use Rattle.codespan_base.specs.declared.term.config.style_mark.StyleMark.TheVariants.{SourceBorder}
use Rattle.codespan_base.specs.declared.term.config.style_mark.StyleMark.TheVariants.{Label, Reset}
use Rattle.codespan_styled.specs.declared.text.Run.{Run}
use Rattle.codespan_styled.specs.Runs.{TextsAreUtf8, RunView, is_plain, run_characters, run_view}
use Rattle.codespan_styled.specs.SafeText.{columns, safe_characters, safe_text}
use Rattle.codespan_styled.specs.SafeText.{shown_character}
use Rattle.codespan_styled.specs.Terminal.{first_sequences, state_after, run_bytes, runs_bytes}
use Rattle.codespan_styled.specs.Terminal.{visible, terminal_text, ShowsSafe, Text, Parameters}
use Rattle.codespan_styled.proofs.UnsafeCells.{columns_stay}
use Rattle.codespan_styled.proofs.TerminalStates.{is_parameter, parameters_after, parameters_show}
use Rattle.codespan_styled.proofs.TerminalStates.{ReadsText, ReadsText-nil, ReadsText-append}
use Rattle.codespan_styled.proofs.TerminalStates.{ReadsText-ascii, ReadsText-safe}

-- ---- the sequences of a style

ascii_parameters : (ps : List ℕ) → list_all is_parameter ps ≡ true
    → IsAscii (ps ++ 109 ∷ [])
ascii_parameters [] h = IsAscii-cons 109 [] (omega arith) IsAscii-nil
ascii_parameters (p ∷ ps) h =
    let parts = and_parts (is_parameter p) (list_all is_parameter ps) h in
    let test = parts.0 in
    let small : p < 128 = grind (arith, nat_tests) in
    IsAscii-cons p (ps ++ 109 ∷ []) small (ascii_parameters ps parts.1)

-- a sequence shows nothing
ReadsText-escape : (ps : List ℕ) → list_all is_parameter ps ≡ true
    → ReadsText (escape ps) []
unfolding escape
ReadsText-escape ps h =
    ReadsText-ascii (0x1b ∷ 91 ∷ (ps ++ 109 ∷ [])) []
    (IsAscii-cons 0x1b (91 ∷ (ps ++ 109 ∷ [])) (omega arith)
    (IsAscii-cons 91 (ps ++ 109 ∷ []) (omega arith) (ascii_parameters ps h)))
    (record {
      after =
          λ rest. ap (state_after Parameters) (append_assoc ps (109 ∷ []) rest)
          ∙ parameters_after ps rest h;
      shows =
          λ rest. ap (visible Parameters) (append_assoc ps (109 ∷ []) rest)
          ∙ parameters_show ps rest h;
    })

ReadsText-reset : ReadsText ansi_reset []
unfolding ansi_reset
ReadsText-reset = ReadsText-escape (codes "0") refl

ReadsText-bold : (b : Bool) → ReadsText (ansi_bold b) []
unfolding ansi_bold
ReadsText-bold true = ReadsText-escape (codes "1") refl
ReadsText-bold false = ReadsText-nil

-- the number of a color is written in digits
plain_digits : (c : Color) → list_all is_parameter (decimal (color_number c)) ≡ true
unfolding digits
plain_digits Black = refl
plain_digits Red = refl
plain_digits Green = refl
plain_digits Yellow = refl
plain_digits Blue = refl
plain_digits Magenta = refl
plain_digits Cyan = refl
plain_digits White = refl

bright_digits : (c : Color) → list_all is_parameter (decimal (8 + color_number c)) ≡ true
unfolding digits
bright_digits Black = refl
bright_digits Red = refl
bright_digits Green = refl
bright_digits Yellow = refl
bright_digits Blue = refl
bright_digits Magenta = refl
bright_digits Cyan = refl
bright_digits White = refl

-- parameters after others
joined_parameters : (ps qs : List ℕ) → list_all is_parameter ps ≡ true
    → list_all is_parameter qs ≡ true → list_all is_parameter (ps ++ qs) ≡ true
joined_parameters ps qs h k =
    list_all-append is_parameter ps qs ∙ ap (λ b. b && list_all is_parameter qs) h ∙ k

ReadsText-color : (plane : List ℕ) (intense : Bool) (color : Option Color)
    → list_all is_parameter plane ≡ true → ReadsText (ansi_color plane intense color) []
unfolding ansi_color
ReadsText-color plane intense None h = ReadsText-nil
ReadsText-color plane true (Some color) h =
    ReadsText-escape (plane ++ codes "8;5;" ++ decimal (8 + color_number color))
    (joined_parameters (plane ++ codes "8;5;") (decimal (8 + color_number color))
    (joined_parameters plane (codes "8;5;") h refl) (bright_digits color))
ReadsText-color plane false (Some color) h =
    ReadsText-escape (plane ++ decimal (color_number color))
    (joined_parameters plane (decimal (color_number color)) h (plain_digits color))

ReadsText-style : (spec : ColorSpec) → ReadsText (ansi_style spec) []
unfolding ansi_style
ReadsText-style spec =
    let bold = ansi_bold spec.bold in
    let text = ansi_color (codes "3") spec.intense spec.fg in
    let ground = ansi_color (codes "4") spec.intense spec.bg in
    ReadsText-append (ansi_reset ++ bold ++ text) [] ground []
    (ReadsText-append (ansi_reset ++ bold) [] text []
    (ReadsText-append ansi_reset [] bold [] ReadsText-reset (ReadsText-bold spec.bold))
    (ReadsText-color (codes "3") spec.intense spec.fg refl))
    (ReadsText-color (codes "4") spec.intense spec.bg refl)

-- each style mark is spelled by sequences
pub ReadsText-mark : (styles : Styles) (mark : StyleMark)
    → ReadsText (ansi_spelling styles mark) []
ReadsText-mark styles (Header severity) = ReadsText-style (header_color_spec styles severity)
ReadsText-mark styles HeaderMessage = ReadsText-style styles.header_message
ReadsText-mark styles LineNumber = ReadsText-style styles.line_number
ReadsText-mark styles NoteBullet = ReadsText-style styles.note_bullet
ReadsText-mark styles SourceBorder = ReadsText-style styles.source_border
ReadsText-mark styles (Label severity style) =
    ReadsText-style (label_color_spec styles severity style)
ReadsText-mark styles Reset = ReadsText-reset

-- ---- runs

ReadsText-first_sequences : (styles : Styles) (style : StyleMark)
    → ReadsText (first_sequences styles style) []
ReadsText-first_sequences styles style =
    cond_both (is_plain style) [] (ansi_spelling styles style) (λ bytes. ReadsText bytes [])
    (λ _. ReadsText-nil) (λ _. ReadsText-mark styles style)

-- the safe characters of a run and of those after it
safe_split : (text : List ℕ) (runs : List RunView)
    → safe_characters (chars text) ++ safe_characters (run_characters runs) ≡ safe_characters
    (chars text ++ run_characters runs)
safe_split text runs =
    sym (filter_map-append shown_character (chars text) (run_characters runs))

ReadsText-runs : (styles : Styles) (runs : List RunView) → TextsAreUtf8 runs
    → ReadsText (runs_bytes styles runs) (safe_characters (run_characters runs))
ReadsText-runs styles [] texts = ReadsText-nil
ReadsText-runs styles (run ∷ runs) texts =
    let shown_run = safe_characters (chars run.text) in
    subst (ReadsText (runs_bytes styles (run ∷ runs))) (safe_split run.text runs)
    (ReadsText-append (run_bytes styles run) shown_run (runs_bytes styles runs)
    (safe_characters (run_characters runs))
    (ReadsText-append (ansi_spelling styles run.style) [] (safe_text run.text) shown_run
    (ReadsText-mark styles run.style) (ReadsText-safe run.text texts.0))
    (ReadsText-runs styles runs texts.1))

ReadsText-terminal : (styles : Styles) (runs : List RunView) → TextsAreUtf8 runs
    → ReadsText (terminal_text styles runs) (safe_characters (run_characters runs))
ReadsText-terminal styles [] texts = ReadsText-nil
ReadsText-terminal styles (first ∷ rest) texts =
    let shown_first = safe_characters (chars first.text) in
    subst (ReadsText (terminal_text styles (first ∷ rest))) (safe_split first.text rest)
    (ReadsText-append (first_sequences styles first.style ++ safe_text first.text) shown_first
    (runs_bytes styles rest) (safe_characters (run_characters rest))
    (ReadsText-append (first_sequences styles first.style) [] (safe_text first.text) shown_first
    (ReadsText-first_sequences styles first.style) (ReadsText-safe first.text texts.0))
    (ReadsText-runs styles rest texts.1))

-- a text for a terminal shows the safe characters of its runs, each in its column
pub shows_safe : (styles : Styles) (runs : List RunView) → TextsAreUtf8 runs
    → ShowsSafe (terminal_text styles runs) runs
shows_safe styles runs texts =
    let read = (ReadsText-terminal styles runs texts).reads in
    let cs = chars (terminal_text styles runs) in
    let safe = safe_characters (run_characters runs) in
    let shows : visible Text cs ≡ safe =
    ap (visible Text) (sym (append-nil cs)) ∙ read.shows [] ∙ append-nil safe in
    record {
      ends_in_text = ap (state_after Text) (sym (append-nil cs)) ∙ read.after [];
      shows = shows;
      in_columns = λ tab_width.
          ap (columns tab_width 0) shows ∙ columns_stay tab_width 0 (run_characters runs);
    }

-- the texts of runs that are strings are UTF-8
pub are_texts : (runs : List Run) → TextsAreUtf8 (map run_view runs)
are_texts [] = tt
are_texts (run ∷ runs) = (IsUtf8-string_bytes run.text, are_texts runs)

-- a string with those bytes
pub string_shows_safe : (styles : Styles) (runs : List Run) (bytes : List ℕ)
    → bytes ≡ terminal_text styles (map run_view runs) → ShowsSafe bytes (map run_view runs)
string_shows_safe styles runs bytes e =
    subst (λ bs. ShowsSafe bs (map run_view runs)) (sym e)
    (shows_safe styles (map run_view runs) (are_texts runs))
