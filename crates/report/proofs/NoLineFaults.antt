-- For the clause of `laws::scripts_read_back`: no line of a script that is written out has an
-- error.
use Rattle.codespan_core.proofs.Std.{◌≡◌, ℕ, ◌+◌, ◌^◌, ◌<◌, ◌≤◌, Bool}
use Rattle.codespan_core.proofs.Std.{true, false, List, [], ◌∷◌, ◌++◌, length, Option}
use Rattle.codespan_core.proofs.Std.{Some, None, codes, is_some, bytes_eq, refl, sym, ap, ◌∙◌}
use Rattle.codespan_core.proofs.Std.{subst, arith, if◌then◌else◌, append_assoc, length-append}
use Rattle.codespan_core.proofs.Std.{option_map, slice_get, filter_map, AllByRecursion, cons_option}
use Rattle.codespan_core.proofs.Std.{filter_map-append}
use Rattle.std.specs.declared.ops.Range.{Range}
use Rattle.codespan_output.specs.Types.{Primary, Secondary, Severity}
use Rattle.program_io.specs.Fields.{field_of, past_space}
use Rattle.report.specs.declared.script.Fault.{Fault}
use Rattle.report.specs.declared.script.FaultKind.TheVariants.{BadNumber, UnknownSeverity}
use Rattle.report.specs.declared.script.FaultKind.TheVariants.{RepeatedWord}
use Rattle.report.specs.Requests.{number_of}
use Rattle.report.specs.ScriptFaults.{fault_at, fault_from, line_of_word, line_fault, number_fault}
use Rattle.report.specs.ScriptFaults.{or_fault, repetition, severity_fault, width_fault}
use Rattle.report.proofs.Numbers.{number_of-decimal}
use Rattle.report.specs.Statements.{IsStatable, Statement, label_fields, statement_line, escaped}
use Rattle.report.specs.Statements.Statement.{SeverityLine, CodeLine, MessageLine, LabelLine}
use Rattle.report.specs.Statements.Statement.{NoteLine, CommentLine, EmptyLine, SuggestionLine}
use Rattle.report.specs.Statements.Statement.{EditLine, WidthLine}
use Rattle.report.specs.Scripts.{rest_of_word}
use Rattle.report.proofs.ReadSuggestions.{Belong, after_suggestion, belong_more, no_replace_fault}
use Rattle.report.specs.ScriptLines.{ScriptLineView, range_at, rest_of, word_of, word_range}
use Rattle.report.specs.ScriptWords.{script_word_named}
use Rattle.report.proofs.WrittenScripts.{line_at, statement_lines}
use Rattle.report.proofs.ReadLines.{rest_by, name_read, fields_read}

-- ---- no line has an error

-- the rest of the first line with a word is the first of the rests
pub rest_of_word_first : (word : List ℕ) (lines : List ScriptLineView)
    → rest_of_word word lines ≡ slice_get (filter_map (rest_by word) lines) 0
rest_of_word_first word [] = refl
rest_of_word_first word (line ∷ lines) =
    by_test (bytes_eq (word_of line) word) (rest_of_word_first word lines)
  where
    by_test : (b : Bool) → rest_of_word word lines
        ≡ slice_get (filter_map (rest_by word) lines) 0
        → option_map rest_of (if b then Some line else line_of_word word lines) ≡ slice_get
        (cons_option (if b then Some (rest_of line) else None) (filter_map (rest_by word) lines)) 0
    by_test true is = refl
    by_test false is = is

-- no line has the word where there are no rests
no_line_of_word : (word : List ℕ) (lines : List ScriptLineView)
    → length (filter_map (rest_by word) lines) ≡ 0 → line_of_word word lines ≡ None
no_line_of_word word [] none = refl
no_line_of_word word (line ∷ lines) none =
    by_test (bytes_eq (word_of line) word) none (no_line_of_word word lines)
  where
    by_test : (b : Bool)
        → length
        (cons_option (if b then Some (rest_of line) else None)
        (filter_map (rest_by word) lines)) ≡ 0
        → (length (filter_map (rest_by word) lines) ≡ 0 → line_of_word word lines ≡ None)
        → (if b then Some line else line_of_word word lines) ≡ None
    by_test true none later = absurd (omega arith)
    by_test false none later = later none

-- at most one of the lines begins with the word
abbrev IsOnce : List ℕ → List ScriptLineView → Type 0
IsOnce word lines = length (filter_map (rest_by word) lines) ≤ 1

-- no line before one that begins with the word does so too
none_before : (word : List ℕ) (before : List ScriptLineView) (line : ScriptLineView)
    (lines : List ScriptLineView)
    → IsOnce word (before ++ line ∷ lines)
    → bytes_eq (word_of line) word ≡ true → line_of_word word before ≡ None
none_before word before line lines once is =
    let split : filter_map (rest_by word) (before ++ line ∷ lines)
    ≡ filter_map (rest_by word) before ++ filter_map (rest_by word) (line ∷ lines) =
    filter_map-append (rest_by word) before (line ∷ lines) in
    let here : filter_map (rest_by word) (line ∷ lines) ≡ rest_of line
    ∷ filter_map (rest_by word) lines =
    ap
    (λ b. cons_option (if b then Some (rest_of line) else None)
    (filter_map (rest_by word) lines))
    is in
    let long : length (filter_map (rest_by word) (before ++ line ∷ lines))
    ≡ length (filter_map (rest_by word) before)
    + length (rest_of line ∷ filter_map (rest_by word) lines) =
    ap length split
    ∙ length-append (filter_map (rest_by word) before)
    (filter_map (rest_by word) (line ∷ lines))
    ∙ ap (λ rests. length (filter_map (rest_by word) before) + length rests) here in
    no_line_of_word word before (omega arith)

-- severity, code, message and width are stated once at most
pub record AreOnce (lines : List ScriptLineView) : Type 0 where
  pub severity : IsOnce (codes "severity") lines
  pub code : IsOnce (codes "code") lines
  pub message : IsOnce (codes "message") lines
  pub width : IsOnce (codes "width") lines

-- a word that no earlier line has is not repeated
not_repeated : (before : List ScriptLineView) (line : ScriptLineView)
    → line_of_word (word_of line) before ≡ None → repetition before line ≡ None
unfolding repetition
not_repeated before line none =
    ap
    (option_map
    (λ first.
    record { kind = RepeatedWord; range = word_range line; first = Some (word_range first) }))
    none

-- the line of a statement has no error
severity_right : (before : List ScriptLineView) (start : ℕ) (severity : Severity)
    (lines : List ScriptLineView)
    → AreOnce (before ++ line_at start (SeverityLine severity) ∷ lines)
    → line_fault before (line_at start (SeverityLine severity)) ≡ None
unfolding severity_fault script_word_named
severity_right before start severity lines once =
    let line : ScriptLineView = line_at start (SeverityLine severity) in
    ap (λ fault. or_fault fault (severity_fault line))
    (not_repeated before line
    (none_before (codes "severity") before line lines once.severity refl))
    ∙ ap
    (λ named. if is_some named then None
    else Some (fault_at UnknownSeverity (range_at line (rest_of line) (rest_of line))))
    (name_read severity)

width_right : (before : List ScriptLineView) (start : ℕ) (width : ℕ)
    (lines : List ScriptLineView)
    → width < 2 ^ 64 → AreOnce (before ++ line_at start (WidthLine width) ∷ lines)
    → line_fault before (line_at start (WidthLine width)) ≡ None
unfolding width_fault script_word_named
width_right before start width lines fits once =
    let line : ScriptLineView = line_at start (WidthLine width) in
    ap (λ fault. or_fault fault (width_fault line))
    (not_repeated before line (none_before (codes "width") before line lines once.width refl))
    ∙ ap
    (λ number. if is_some number then None
    else Some (fault_at BadNumber (range_at line (rest_of line) (rest_of line))))
    (number_of-decimal width fits)

-- where both fields are numbers there is no error
both_numbers : (first last : Option ℕ) (start end : Option Fault) (m n : ℕ) → first ≡ Some m
    → last ≡ Some n
    → (if is_some first then (if is_some last then None else end) else start) ≡ None
both_numbers first last start end m n p q = rw (p, q)

label_correct : (start : ℕ) (s : Statement) (range : Range ℕ) (message : Option (List ℕ))
    → range.start < 2 ^ 64 → range.end < 2 ^ 64
    → rest_of (line_at start s) ≡ label_fields range message
    → number_fault (line_at start s) ≡ None
unfolding number_fault
label_correct start s range message first last is =
    let line : ScriptLineView = line_at start s in
    let read = fields_read range message first last in
    both_numbers (number_of (field_of (rest_of line)))
    (number_of (field_of (past_space (rest_of line)))) _ _ range.start range.end
    (ap (λ rest. number_of (field_of rest)) is ∙ read.first)
    (ap (λ rest. number_of (field_of (past_space rest))) is ∙ read.last)

line_right : (before : List ScriptLineView) (start : ℕ) (s : Statement)
    (ss : List Statement) (lines : List ScriptLineView)
    → IsStatable s → AreOnce (before ++ line_at start s ∷ lines) → Belong before (s ∷ ss)
    → line_fault before (line_at start s) ≡ None
unfolding script_word_named
line_right before start (SeverityLine severity) ss lines can once belong =
    severity_right before start severity lines once
line_right before start (CodeLine text) ss lines can once belong =
    not_repeated before (line_at start (CodeLine text))
    (none_before (codes "code") before (line_at start (CodeLine text)) lines once.code refl)
line_right before start (MessageLine text) ss lines can once belong =
    not_repeated before (line_at start (MessageLine text))
    (none_before (codes "message") before (line_at start (MessageLine text)) lines once.message
    refl)
line_right before start (WidthLine width) ss lines can once belong =
    width_right before start width lines can once
line_right before start (LabelLine Primary range message) ss lines can once belong =
    label_correct start (LabelLine Primary range message) range message can.0 can.1 refl
line_right before start (LabelLine Secondary range message) ss lines can once belong =
    label_correct start (LabelLine Secondary range message) range message can.0 can.1 refl
line_right before start (NoteLine text) ss lines can once belong = refl
line_right before start (SuggestionLine text) ss lines can once belong = refl
line_right before start (EditLine range text) ss lines can once belong =
    no_replace_fault before start range text can.0 can.1
    (after_suggestion before range text ss belong)
    (label_correct start (EditLine range text) range (option_map escaped text) can.0 can.1 refl)
line_right before start (CommentLine text) ss lines can once belong = refl
line_right before start EmptyLine ss lines can once belong = refl

-- no line of statements has an error
pub lines_right : (before : List ScriptLineView) (start : ℕ) (ss : List Statement)
    → AllByRecursion IsStatable ss → AreOnce (before ++ statement_lines start ss)
    → Belong before ss → fault_from before (statement_lines start ss) ≡ None
lines_right before start [] can once belong = refl
lines_right before start (s ∷ ss) can once belong =
    let line : ScriptLineView = line_at start s in
    let next : ℕ = start + length (statement_line s) + 1 in
    let moved : before ++ line ∷ statement_lines next ss ≡ (before ++ line ∷ [])
    ++ statement_lines next ss =
    sym (append_assoc before (line ∷ []) (statement_lines next ss)) in
    ap (λ fault. or_fault fault (fault_from (before ++ line ∷ []) (statement_lines next ss)))
    (line_right before start s ss (statement_lines next ss) can.0 once belong)
    ∙ lines_right (before ++ line ∷ []) next ss can.1 (subst AreOnce moved once)
    (belong_more before start s ss belong)
