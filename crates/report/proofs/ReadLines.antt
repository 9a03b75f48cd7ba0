-- For the clause of `laws::scripts_read_back`: what is read of each line of a script that is
-- written out from its statements.
use Rattle.codespan_core.proofs.Std.{◌≡◌, ℕ, ◌+◌, ◌^◌, ◌<◌, List, [], ◌∷◌}
use Rattle.codespan_core.proofs.Std.{length, take, Option, Some, None, codes, bytes_eq, refl, ap}
use Rattle.codespan_core.proofs.Std.{◌∙◌, if◌then◌else◌, unwrap_or, decimal, option_map}
use Rattle.codespan_core.proofs.Std.{filter_map, AllByRecursion, cons_option, position_or_len}
use Rattle.std.proofs.Common.{one-add}
use Rattle.std.specs.declared.ops.Range.{Range}
use Rattle.codespan_core.specs.declared.diagnostic.Severity.TheVariants.{Bug, Error, Warning, Note}
use Rattle.codespan_core.specs.declared.diagnostic.Severity.TheVariants.{Help}
use Rattle.codespan_output.specs.Types.{LabelStyle, Primary, Secondary, Severity}
use Rattle.program_io.specs.Fields.{field_of, is_space, past_space}
use Rattle.program_io.specs.Names.{severity_named}
use Rattle.report.specs.Requests.{number_of}
use Rattle.report.specs.Statements.{IsStatable, Statement, code_stated, joined_fields, label_fields}
use Rattle.report.specs.Statements.{label_stated, message_stated, note_stated, severity_stated}
use Rattle.report.specs.Statements.{statement_line, width_stated}
use Rattle.codespan_core.specs.Diagnostics.{severity_name}
use Rattle.report.specs.Statements.Statement.{SeverityLine, CodeLine, MessageLine, LabelLine}
use Rattle.report.specs.Statements.Statement.{NoteLine, CommentLine, EmptyLine, SuggestionLine}
use Rattle.report.specs.Statements.Statement.{EditLine, WidthLine}
use Rattle.report.specs.ScriptLines.{ScriptLineView, rest_of, word_of}
use Rattle.report.specs.ScriptWords.{script_word_named}
use Rattle.report.specs.Scripts.{label_by_word, label_with_ends, parsed_label, label_of_rest}
use Rattle.report.specs.Scripts.{parsed_note}
use Rattle.report.proofs.Numbers.{number_of-decimal}
use Rattle.report.proofs.WrittenScripts.{field_alone, past_alone, first_field, past_field, no_space}
use Rattle.report.proofs.WrittenScripts.{line_at, statement_lines}

-- ---- what is read of each line

-- the word of a comment begins with `#`
pub comment_word : (text : List ℕ) → field_of (35 ∷ text) ≡ 35 ∷ field_of text
comment_word text = ap (λ n. take n (35 ∷ text)) (one-add (position_or_len is_space text))

-- the rest of a line that begins with the word
abbrev pub rest_by : List ℕ → ScriptLineView → Option (List ℕ)
rest_by word line = if bytes_eq (word_of line) word then Some (rest_of line) else None

-- the severity, the code, the message, the width and the note of a line are those of its statement
pub severity_read : (start : ℕ) (s : Statement) → IsStatable s
    → rest_by (codes "severity") (line_at start s)
    ≡ option_map severity_name (severity_stated s)
severity_read start (SeverityLine severity) can = refl
severity_read start (CodeLine text) can = refl
severity_read start (MessageLine text) can = refl
severity_read start (WidthLine width) can = refl
severity_read start (LabelLine Primary range message) can = refl
severity_read start (LabelLine Secondary range message) can = refl
severity_read start (NoteLine text) can = refl
severity_read start (SuggestionLine text) can = refl
severity_read start (EditLine range replacement) can = refl
severity_read start (CommentLine text) can =
    ap (λ word. if bytes_eq word (codes "severity") then Some (past_space (35 ∷ text)) else None)
    (comment_word text)
severity_read start EmptyLine can = refl

pub code_read : (start : ℕ) (s : Statement) → IsStatable s
    → rest_by (codes "code") (line_at start s) ≡ code_stated s
code_read start (SeverityLine severity) can = refl
code_read start (CodeLine text) can = refl
code_read start (MessageLine text) can = refl
code_read start (WidthLine width) can = refl
code_read start (LabelLine Primary range message) can = refl
code_read start (LabelLine Secondary range message) can = refl
code_read start (NoteLine text) can = refl
code_read start (SuggestionLine text) can = refl
code_read start (EditLine range replacement) can = refl
code_read start (CommentLine text) can =
    ap (λ word. if bytes_eq word (codes "code") then Some (past_space (35 ∷ text)) else None)
    (comment_word text)
code_read start EmptyLine can = refl

pub message_read : (start : ℕ) (s : Statement) → IsStatable s
    → rest_by (codes "message") (line_at start s) ≡ message_stated s
message_read start (SeverityLine severity) can = refl
message_read start (CodeLine text) can = refl
message_read start (MessageLine text) can = refl
message_read start (WidthLine width) can = refl
message_read start (LabelLine Primary range message) can = refl
message_read start (LabelLine Secondary range message) can = refl
message_read start (NoteLine text) can = refl
message_read start (SuggestionLine text) can = refl
message_read start (EditLine range replacement) can = refl
message_read start (CommentLine text) can =
    ap (λ word. if bytes_eq word (codes "message") then Some (past_space (35 ∷ text)) else None)
    (comment_word text)
message_read start EmptyLine can = refl

pub width_read : (start : ℕ) (s : Statement) → IsStatable s
    → rest_by (codes "width") (line_at start s) ≡ option_map decimal (width_stated s)
width_read start (SeverityLine severity) can = refl
width_read start (CodeLine text) can = refl
width_read start (MessageLine text) can = refl
width_read start (WidthLine width) can = refl
width_read start (LabelLine Primary range message) can = refl
width_read start (LabelLine Secondary range message) can = refl
width_read start (NoteLine text) can = refl
width_read start (SuggestionLine text) can = refl
width_read start (EditLine range replacement) can = refl
width_read start (CommentLine text) can =
    ap (λ word. if bytes_eq word (codes "width") then Some (past_space (35 ∷ text)) else None)
    (comment_word text)
width_read start EmptyLine can = refl

pub note_read : (start : ℕ) (s : Statement) → IsStatable s
    → parsed_note (line_at start s) ≡ note_stated s
note_read start (SeverityLine severity) can = refl
note_read start (CodeLine text) can = refl
note_read start (MessageLine text) can = refl
note_read start (WidthLine width) can = refl
note_read start (LabelLine Primary range message) can = refl
note_read start (LabelLine Secondary range message) can = refl
note_read start (NoteLine text) can = refl
note_read start (SuggestionLine text) can = refl
note_read start (EditLine range replacement) can = refl
note_read start (CommentLine text) can =
    ap (λ word. if bytes_eq word (codes "note") then Some (past_space (35 ∷ text)) else None)
    (comment_word text)
note_read start EmptyLine can = refl

-- the name of a severity is read as that severity
pub name_read : (severity : Severity) → severity_named (severity_name severity) ≡ Some severity
unfolding severity_named
name_read Bug = refl
name_read Error = refl
name_read Warning = refl
name_read Note = refl
name_read Help = refl

-- a label is read field by field
both_ends : (style : LabelStyle) (range : Range ℕ) (message text : List ℕ)
    (first last : Option ℕ)
    → text ≡ message → first ≡ Some range.start → last ≡ Some range.end
    → label_with_ends style text first last ≡ Some
    (record { style = style; file_id = tt; range = range; message = message })
both_ends style range message text first last p q r = rw (p, q, r)

-- what is read of the fields of a label
pub record AreRead (range : Range ℕ) (message rest : List ℕ) : Type 0 where
  pub first : number_of (field_of rest) ≡ Some range.start
  pub last : number_of (field_of (past_space rest)) ≡ Some range.end
  pub text : past_space (past_space rest) ≡ message

pub fields_read : (range : Range ℕ) (message : Option (List ℕ)) → range.start < 2 ^ 64
    → range.end < 2 ^ 64 → AreRead range (unwrap_or message []) (label_fields range message)
fields_read range None first last =
    let start = no_space range.start first in
    let end = no_space range.end last in
    let after : past_space (label_fields range None) ≡ decimal range.end =
    past_field (decimal range.start) (decimal range.end) start in
    record {
      first =
          ap number_of (first_field (decimal range.start) (decimal range.end) start)
          ∙ number_of-decimal range.start first;
      last =
          ap (λ rest. number_of (field_of rest)) after
          ∙ ap number_of (field_alone (decimal range.end) end)
          ∙ number_of-decimal range.end last;
      text = ap past_space after ∙ past_alone (decimal range.end) end;
    }
fields_read range (Some message) first last =
    let start = no_space range.start first in
    let end = no_space range.end last in
    let others : List ℕ = joined_fields (decimal range.end) message in
    let after : past_space (label_fields range (Some message)) ≡ others =
    past_field (decimal range.start) others start in
    record {
      first =
          ap number_of (first_field (decimal range.start) others start)
          ∙ number_of-decimal range.start first;
      last =
          ap (λ rest. number_of (field_of rest)) after
          ∙ ap number_of (first_field (decimal range.end) message end)
          ∙ number_of-decimal range.end last;
      text = ap past_space after ∙ past_field (decimal range.end) message end;
    }

label_fields_read : (style : LabelStyle) (range : Range ℕ) (message : Option (List ℕ))
    → range.start < 2 ^ 64 → range.end < 2 ^ 64
    → label_of_rest style (label_fields range message) ≡ label_stated
    (LabelLine style range message)
label_fields_read style range message first last =
    let rest : List ℕ = label_fields range message in
    let read = fields_read range message first last in
    both_ends style range (unwrap_or message []) (past_space (past_space rest))
    (number_of (field_of rest)) (number_of (field_of (past_space rest))) read.text read.first
    read.last

pub label_read : (start : ℕ) (s : Statement) → IsStatable s
    → parsed_label (line_at start s) ≡ label_stated s
unfolding parsed_label script_word_named
label_read start (SeverityLine severity) can = refl
label_read start (CodeLine text) can = refl
label_read start (MessageLine text) can = refl
label_read start (WidthLine width) can = refl
label_read start (LabelLine Primary range message) can =
    label_fields_read Primary range message can.0 can.1
label_read start (LabelLine Secondary range message) can =
    label_fields_read Secondary range message can.0 can.1
label_read start (NoteLine text) can = refl
label_read start (SuggestionLine text) can = refl
label_read start (EditLine range replacement) can = refl
label_read start (CommentLine text) can =
    ap (λ word. label_by_word (line_at start (CommentLine text)) (script_word_named word))
    (comment_word text)
label_read start EmptyLine can = refl

-- what is read of each line of statements is read of all of them
pub all_read : {T : Type 0} (read : ScriptLineView → Option T) (stated : Statement → Option T)
    → ((start : ℕ) (s : Statement) → IsStatable s → read (line_at start s) ≡ stated s)
    → (start : ℕ) (ss : List Statement) → AllByRecursion IsStatable ss
    → filter_map read (statement_lines start ss) ≡ filter_map stated ss
all_read read stated same start [] can = refl
all_read read stated same start (s ∷ ss) can =
    let next : ℕ = start + length (statement_line s) + 1 in
    ap (λ x. cons_option x (filter_map read (statement_lines next ss))) (same start s can.0)
    ∙ ap (cons_option (stated s)) (all_read read stated same next ss can.1)
