-- For `outputs_are_utf8`: the streams of lanes and of their characters are texts.
use Rattle.codespan_core.proofs.Std.{◌≡◌, ℕ, ◌+◌, Bool, true, false, ◌&&◌, ◌==◌}
use Rattle.codespan_core.proofs.Std.{List, [], ◌∷◌, Option, Some, None, refl}
use Rattle.codespan_core.proofs.Std.{if◌then◌else◌, IfSome, IsScalar, len_utf8}
use Rattle.codespan_core.proofs.Std.{AllByRecursion, IsUtf8, chars}
use Rattle.std.specs.Str.{all_scalars}
use Rattle.std.proofs.Math.Utf8.{scalar}
use Rattle.std.proofs.lemmas.Str.{scalars-chars}
use Rattle.codespan_core.specs.Labels.{LabelModel, LaneMark, MultiLabel, Top, Left, Bottom}
use Rattle.codespan_core.specs.Streams.{glyph, spaces}
use Rattle.codespan_output.specs.Types.{LabelStyle, Primary, Secondary, Severity, Chars, Metrics}
use Rattle.codespan_output.specs.declared.lane_shapes.Shape.{Shape}
use Rattle.codespan_output.specs.declared.lane_shapes.Shape.TheVariants.{Space, Bar, TopCorner}
use Rattle.codespan_output.specs.declared.lane_shapes.Shape.TheVariants.{BottomCorner}
use Rattle.codespan_output.specs.{caret_for, char_metrics, metrics_then, width_at, underline_char}
use Rattle.codespan_output.specs.{crossing_characters, label_glyph, lane_characters, Line, Row}
use Rattle.codespan_output.specs.{HeaderRow, SnippetStartRow, SourceRow, CaretRow, HangingRow}
use Rattle.codespan_output.specs.{UnderlineRow, FirstNoteRow, LaterNoteRow, source_glyph}
use Rattle.codespan_output.specs.{start_caret, end_caret, StreamIsUtf8, CharsAreScalars}
use Rattle.codespan_output.proofs.Utf8.Streams.{pieces, text-both, text-glyph, text-spaces}

-- ---- lanes

pub text-label_glyph : (severity : Severity) (style : LabelStyle) (c : ℕ) → IsScalar c
    → StreamIsUtf8 (label_glyph severity style c)
unfolding label_glyph
text-label_glyph severity style c s = search (pieces, s)

module _ (chars : Chars) (ok : CharsAreScalars chars) where
  scalar-underline_char : (multi_label : MultiLabel) → IsScalar (underline_char chars multi_label)
  scalar-underline_char (Top start) = ok.multi_top
  scalar-underline_char Left = ok.multi_bottom
  scalar-underline_char (Bottom end message) = ok.multi_bottom

  text-crossing_characters : (severity : Severity) (crossing : Option LaneMark) (n : ℕ)
      → StreamIsUtf8 (crossing_characters severity chars crossing n)
  unfolding crossing_characters
  text-crossing_characters severity None n = text-spaces n
  text-crossing_characters severity (Some m) n = search
      (pieces, scalar-underline_char m.multi_label)

  pub text-lane_characters : (severity : Severity) (crossing : Option LaneMark) (style : LabelStyle)
      (shape : Shape)
      → StreamIsUtf8 (lane_characters severity chars crossing style shape)
  unfolding lane_characters
  text-lane_characters severity crossing style Space = text-crossing_characters severity crossing 2
  text-lane_characters severity crossing style Bar =
      text-both (crossing_characters severity chars crossing 1) _
      (text-crossing_characters severity crossing 1)
      (text-label_glyph severity style chars.multi_left ok.multi_left)
  text-lane_characters severity crossing style TopCorner =
      text-both (crossing_characters severity chars crossing 1) _
      (text-crossing_characters severity crossing 1)
      (text-label_glyph severity style chars.multi_top_left ok.multi_top_left)
  text-lane_characters severity crossing style BottomCorner =
      text-both (crossing_characters severity chars crossing 1) _
      (text-crossing_characters severity crossing 1)
      (text-label_glyph severity style chars.multi_bottom_left ok.multi_bottom_left)

  pub scalar-caret_for : (style : Option LabelStyle) → IsScalar (caret_for chars style)
  scalar-caret_for None = refl
  scalar-caret_for (Some Primary) = ok.single_primary_caret
  scalar-caret_for (Some Secondary) = ok.single_secondary_caret

  pub scalar-start_caret : (style : LabelStyle) → IsScalar (start_caret chars style)
  scalar-start_caret Primary = ok.multi_primary_caret_start
  scalar-start_caret Secondary = ok.multi_secondary_caret_start

  pub scalar-end_caret : (style : LabelStyle) → IsScalar (end_caret chars style)
  scalar-end_caret Primary = ok.multi_primary_caret_end
  scalar-end_caret Secondary = ok.multi_secondary_caret_end

-- ---- the characters of a line

and_true : (a b : Bool) → (a && b) ≡ true → (a ≡ true) × (b ≡ true)
and_true true b e = (refl, e)
and_true false b e = absurd (cc)

-- the characters of a line are Unicode scalar values where those of its text are
scalar-metrics_then : (after : ℕ → ℕ → List Metrics) (tab : ℕ)
    → ((p k : ℕ) → AllByRecursion (λ (c : Metrics). IsScalar c.ch) (after p k))
    → (cs : List ℕ)
    → all_scalars cs ≡ true
    → (byte_index column : ℕ)
    → AllByRecursion (λ (c : Metrics). IsScalar c.ch)
    (metrics_then after tab byte_index column cs)
scalar-metrics_then after tab h [] e byte_index column = h byte_index column
scalar-metrics_then after tab h (c ∷ cs) e byte_index column =
    let both = and_true (scalar c) (all_scalars cs) e in (
      both.0,
      scalar-metrics_then after tab h cs both.1 (byte_index + len_utf8 c)
          (column + width_at tab column c),
    )

pub scalar-char_metrics : (tab : ℕ) (text : List ℕ) → IsUtf8 text
    → AllByRecursion (λ (c : Metrics). IsScalar c.ch) (char_metrics tab text)
scalar-char_metrics tab text u =
    scalar-metrics_then (λ _ _. []) tab (λ p k. tt) (chars text) (scalars-chars text u) 0 0

pub text-source_glyph : (c : Metrics) → IsScalar c.ch → StreamIsUtf8 (source_glyph c)
unfolding source_glyph
text-source_glyph c s = by (c.ch == 9)
  where
    by : (b : Bool) → StreamIsUtf8 (if b then spaces c.unicode_width else glyph c.ch)
    by true = text-spaces c.unicode_width
    by false = text-glyph c.ch s

-- ---- what a row is rendered from

-- the message of a multi-line label mark
abbrev pub MultiLabelIsUtf8 : MultiLabel → Type 0
MultiLabelIsUtf8 (Bottom end message) = StreamIsUtf8 message
MultiLabelIsUtf8 _ = Unit {0}

-- the text of a line and the messages of its labels are texts
pub record LineIsUtf8 (line : Line) : Type 0 where
  pub text : IsUtf8 line.text
  pub labels : AllByRecursion (λ (x : LabelModel). StreamIsUtf8 x.message) line.labels
  pub lane_marks : AllByRecursion (λ (m : LaneMark). MultiLabelIsUtf8 m.multi_label)
      line.lanes.lane_marks

-- what a row is rendered from are texts
abbrev pub RowIsUtf8 : Row → Type 0
RowIsUtf8 (HeaderRow at header_text) =
    IfSome at (λ p. IsUtf8 p.name) × IfSome header_text.code IsUtf8 × IsUtf8 header_text.message
RowIsUtf8 (SnippetStartRow at) = IsUtf8 at.name
RowIsUtf8 (SourceRow line) = IsUtf8 line.text
RowIsUtf8 (CaretRow line) = AllByRecursion (λ (x : LabelModel). StreamIsUtf8 x.message) line.labels
RowIsUtf8 (HangingRow line x) = StreamIsUtf8 x.message
RowIsUtf8 (UnderlineRow line m) = MultiLabelIsUtf8 m.multi_label
RowIsUtf8 (FirstNoteRow note_line) = IsUtf8 note_line
RowIsUtf8 (LaterNoteRow note_line) = IsUtf8 note_line
RowIsUtf8 _ = Unit {0}
