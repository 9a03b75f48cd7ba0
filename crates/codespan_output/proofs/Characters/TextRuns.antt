-- For `write_colored_text`: the text of a source row, run by run.
use Rattle.codespan_core.proofs.Std.{◌≡◌, ℕ, ◌+◌, ◌-◌, ◌≤◌, List, []}
use Rattle.codespan_core.proofs.Std.{◌∷◌, ◌++◌, length, take, drop, Option, None, refl}
use Rattle.codespan_core.proofs.Std.{sym, ap, ◌∙◌, append_assoc, append-nil, arith}
use Rattle.codespan_core.proofs.Std.{encode_utf8, len_utf8, IsUtf8, chars, take-append_seam}
use Rattle.codespan_core.proofs.Std.{drop-drop, ne_eqb, eq-eqb}
use Rattle.std.proofs.Math.Seq.{take-add}
use Rattle.std.proofs.lemmas.Str.{encodes-chars, drop_past_char}
use Rattle.codespan_core.specs.Streams.{Stream, byte_stream, spaces, glyph}
use Rattle.codespan_output.specs.Types.{LabelStyle, Metrics}
use Rattle.codespan_output.specs.{metrics_then, char_metrics, width_at, RowContext, Line}
use Rattle.codespan_output.specs.{style_change, source_glyph, source_style, colored_text}
use lib.Utf8.{encodes}
use Rattle.codespan_core.proofs.Writes.{byte_stream-append}
use Rattle.codespan_output.proofs.Characters.Steps.{bytes_left}
use Rattle.codespan_output.proofs.Outputs.RowEquations.{style_change-same, regroup}
use Rattle.codespan_output.specs.Private.{styled_after}
use Rattle.codespan_output.proofs.Characters.Styled.{colored_text-is}

-- ---- where a loop is in the text

-- the remaining characters are those of the text from a byte index on
pub record IsOver (tab : ℕ) (text : List ℕ) (byte_index : ℕ) (left : List Metrics) : Type 0
  where
    pub codes : List ℕ
    pub column : ℕ
    pub char_metrics : left ≡ metrics_then (λ _ _. []) tab byte_index column codes
    pub text_left : drop byte_index text ≡ encodes codes
    pub within : byte_index ≤ length text

pub over-start : (tab : ℕ) (text : List ℕ) → IsUtf8 text
    → IsOver tab text 0 (char_metrics tab text)
over-start tab text u =
    record {
      codes =
          chars text;
      column =
          0;
      char_metrics = refl;
      text_left = sym (encodes-chars text u);
      within = omega arith;
    }

-- a character and what is after it
pub record IsNext (tab : ℕ) (text : List ℕ) (byte_index : ℕ) (x : Metrics)
    (left : List Metrics) : Type 0 where
  pub text_left : drop byte_index text ≡ encode_utf8 x.ch ++ drop (byte_index + x.bytes) text
  pub bytes : x.bytes ≡ len_utf8 x.ch
  pub over : IsOver tab text (byte_index + x.bytes) left

abbrev first : Metrics → List Metrics → Metrics
first d [] = d
first d (x ∷ xs) = x

abbrev after : List Metrics → List Metrics
after [] = []
after (x ∷ xs) = xs

over-cons : (tab : ℕ) (text : List ℕ) (byte_index column : ℕ) (x : Metrics)
    (left : List Metrics)
    (codes : List ℕ)
    → x ∷ left ≡ metrics_then (λ _ _. []) tab byte_index column codes
    → drop byte_index text ≡ encodes codes → byte_index ≤ length text
    → IsNext tab text byte_index x left
over-cons tab text byte_index column x left [] e t w = absurd (omega (arith, ap length e))
over-cons tab text byte_index column x left (c ∷ cs) e t w =
    let same : x
    ≡ record {
      ch =
          c;
      byte_index = byte_index;
      bytes = len_utf8 c;
      column = column;
      unicode_width = width_at tab column c;
    } =
    ap (first x) e in
    let past : drop (byte_index + len_utf8 c) text ≡ encodes cs =
    drop_past_char text (encodes cs) byte_index c t in
    rw same record {
      text_left = t ∙ ap (λ (l : List ℕ). encode_utf8 c ++ l) (sym past);
      bytes = refl;
      over = record {
        codes = cs;
        column = column + width_at tab column c;
        char_metrics = ap after e;
        text_left = past;
        within = omega (arith, bytes_left text (encodes cs) byte_index c t);
      };
    }

pub over-next : (tab : ℕ) (text : List ℕ) (byte_index : ℕ) (x : Metrics)
    (left after : List Metrics)
    → left ≡ x ∷ after → IsOver tab text byte_index left
    → IsNext tab text byte_index x after
over-next tab text byte_index x left after e o =
    over-cons tab text byte_index o.column x after o.codes (sym e ∙ o.char_metrics) o.text_left
    o.within

-- ---- a piece of the text

-- the text from one byte index to before another
abbrev pub piece : List ℕ → ℕ → ℕ → List ℕ
piece text start end = take (end - start) (drop start text)

-- it grows by a character
pub piece-grows : (text : List ℕ) (start end : ℕ) (ch : List ℕ) (n : ℕ) → start ≤ end
    → drop end text ≡ ch ++ drop (end + n) text → n ≡ length ch
    → piece text start (end + n) ≡ piece text start end ++ ch
piece-grows text start end ch n h t e =
    let more : end + n - start ≡ end - start + n = omega arith in
    let there : drop (end - start) (drop start text) ≡ ch ++ drop (end + n) text =
    drop-drop (end - start) start text
    ∙ (let i : start + (end - start) ≡ end = omega arith in ap (λ k. drop k text) i) ∙ t in
    ap (λ k. take k (drop start text)) more
    ∙ take-add (end - start) n (drop start text)
    ∙ ap (λ (l : List ℕ). piece text start end ++ l)
    (rw (there, e) (take-append_seam ch (drop (end + length ch) text)))

-- ---- the rest of a source row

-- the text of a run that has begun, and of the remaining characters
abbrev pub text_rest : RowContext → Line → Option LabelStyle → List ℕ → List Metrics
    → Stream
text_rest context line previous run cs =
    byte_stream run ++ styled_after context.severity (source_style line) source_glyph previous cs

-- no run has begun
pub text-start : (context : RowContext) (line : Line)
    → text_rest context line None [] (char_metrics context.tab_width line.text) ≡ colored_text
    context line
unfolding byte_stream
text-start context line = sym (colored_text-is context line)

shown : (c : Metrics) → (c.ch ≡ 9 → ⊥) → source_glyph c ≡ glyph c.ch
unfolding source_glyph
shown c h = rw (ne_eqb c.ch 9 h) refl

tab_shown : (c : Metrics) → c.ch ≡ 9 → source_glyph c ≡ spaces c.unicode_width
unfolding source_glyph
tab_shown c h = rw (eq-eqb c.ch 9 h) refl

-- the next character begins another run
pub text-turn : (context : RowContext) (line : Line) (previous style : Option LabelStyle)
    (run : List ℕ) (c : Metrics) (left cs : List Metrics)
    → left ≡ c ∷ cs → style ≡ source_style line c → (c.ch ≡ 9 → ⊥)
    → text_rest context line previous run left ≡ byte_stream run
    ++ style_change context.severity
    previous
    style ++ text_rest context line style (encode_utf8 c.ch) cs
text-turn context line previous style run c left cs l s h =
    rw (l, s)
    (regroup (byte_stream run) (style_change context.severity previous (source_style line c))
    (source_glyph c)
    (styled_after context.severity (source_style line) source_glyph (source_style line c) cs)
    ∙ ap
    (λ (g : Stream). byte_stream run
    ++ style_change context.severity previous (source_style line c)
    ++ (g ++ styled_after context.severity (source_style line) source_glyph (source_style line c)
    cs))
    (shown c h))

-- it is in the run
pub text-same : (context : RowContext) (line : Line) (previous style : Option LabelStyle)
    (run : List ℕ) (c : Metrics) (left cs : List Metrics)
    → left ≡ c ∷ cs → style ≡ source_style line c → (c.ch ≡ 9 → ⊥)
    → previous ≡ style
    → text_rest context line previous run left ≡ text_rest context line style
    (run ++ encode_utf8 c.ch) cs
text-same context line previous style run c left cs l s h e =
    let st = styled_after context.severity (source_style line) source_glyph style cs in
    text-turn context line previous style run c left cs l s h
    ∙ ap (λ (g : Stream). g ++ text_rest context line style (encode_utf8 c.ch) cs)
    (ap (λ (g : Stream). byte_stream run ++ g)
    (ap (λ o. style_change context.severity o style) e
    ∙ style_change-same context.severity style)
    ∙ append-nil (byte_stream run))
    ∙ sym (append_assoc (byte_stream run) (glyph c.ch) st)
    ∙ ap (λ (g : Stream). g ++ st) (sym (byte_stream-append run (encode_utf8 c.ch)))

-- it is a tab
pub text-tab : (context : RowContext) (line : Line) (previous style : Option LabelStyle)
    (run : List ℕ) (c : Metrics) (left cs : List Metrics)
    → left ≡ c ∷ cs → style ≡ source_style line c → c.ch ≡ 9
    → text_rest context line previous run left ≡ byte_stream run
    ++ style_change context.severity
    previous
    style ++ spaces c.unicode_width ++ text_rest context line style [] cs
unfolding byte_stream
text-tab context line previous style run c left cs l s h =
    let st = styled_after context.severity (source_style line) source_glyph (source_style line c) cs
    in
    rw (l, s)
    (regroup (byte_stream run) (style_change context.severity previous (source_style line c))
    (source_glyph
    c) st
    ∙ ap
    (λ (g : Stream). byte_stream run
    ++ style_change context.severity previous (source_style line c)
    ++ (g ++ st))
    (tab_shown c h)
    ∙ sym
    (append_assoc (byte_stream run ++ style_change context.severity previous (source_style line c))
    (spaces c.unicode_width) st))

-- none remains
pub text-end : (context : RowContext) (line : Line) (previous : Option LabelStyle) (run : List ℕ)
    (left : List Metrics)
    → left ≡ []
    → byte_stream run ++ style_change context.severity previous None
    ≡ text_rest context line previous run left
text-end context line previous run left e = rw e refl
