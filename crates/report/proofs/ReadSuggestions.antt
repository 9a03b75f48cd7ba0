-- For the clause of `laws::scripts_read_back`: what is read of the suggestions of a script that is
-- written out from its statements.
use Rattle.codespan_core.proofs.Std.{◌≡◌, ℕ, ◌+◌, ◌^◌, ◌<◌, ◌==◌, Bool}
use Rattle.codespan_core.proofs.Std.{true, false, List, [], ◌∷◌, ◌++◌, length, map}
use Rattle.codespan_core.proofs.Std.{Option, Some, None, Result, Ok, codes, bytes_eq, is_some, refl}
use Rattle.codespan_core.proofs.Std.{sym, ap, ◌∙◌, eqb-true, if◌then◌else◌, unwrap_or}
use Rattle.codespan_core.proofs.Std.{option_map, AllByRecursion, ◌⊎◌, inl, inr}
use Rattle.std.proofs.Common.{option_and_then}
use Rattle.std.specs.Char.{encode_utf8}
use Rattle.std.specs.Result.{result_ok}
use Rattle.std.specs.declared.ops.Range.{Range}
use Rattle.codespan_core.specs.declared.diagnostic.LabelStyle.TheVariants.{Primary, Secondary}
use Rattle.codespan_edits.specs.Edits.{TextEdit}
use Rattle.codespan_edits.specs.Faults.{fault}
use Rattle.codespan_suggestions.specs.Views.{EditView}
use Rattle.program_io.specs.Escapes.{unescaped, with_prefix}
use Rattle.program_io.specs.Fields.{field_of, past_space}
use Rattle.report.specs.Requests.{number_of}
use Rattle.report.specs.ScriptFaults.{line_of_word, number_fault, escape_fault, or_fault}
use Rattle.report.specs.ScriptFaults.{replace_fault}
use Rattle.report.specs.ScriptLines.{ScriptLineView, replacement_of, rest_of, word_of}
use Rattle.report.specs.Statements.{IsStatable, Statement, escaped, statement_line, CanBeMade}
use Rattle.report.specs.Statements.{stated_edits, stated_suggestions}
use Rattle.report.specs.Statements.Statement.{LabelLine, CommentLine, SuggestionLine, EditLine}
use Rattle.report.specs.Suggestions.{edit_lines, edits_fault, fault_of_edits, parsed_edit}
use Rattle.report.specs.Suggestions.{parsed_suggestions, suggestion_of, suggestions_fault}
use Rattle.report.proofs.WrittenScripts.{line_at, statement_lines}
use Rattle.report.proofs.ReadLines.{comment_word, fields_read}

-- ---- replacements

-- a replacement is read as it was before it was written
pub replacement_read : (text : List ℕ) → unescaped (escaped text) ≡ Ok text
unfolding encode_utf8
replacement_read [] = refl
replacement_read (b ∷ bs) =
    by (b == 10) (eqb-true b 10) (b == 13) (eqb-true b 13) (b == 92) refl (eqb-true b 92)
    (replacement_read bs)
  where
    by : (x : Bool) → (x ≡ true → b ≡ 10) → (y : Bool) → (y ≡ true → b ≡ 13)
        → (z : Bool)
        → (b == 92) ≡ z → (z ≡ true → b ≡ 92) → unescaped (escaped bs) ≡ Ok bs
        → unescaped ((if x then codes "\\n" else if y then codes "\\r"
        else if z then codes "\\\\" else b ∷ []) ++ escaped bs) ≡ Ok (b ∷ bs)
    by true newline y return z same backslash more =
        ap (with_prefix (10 ∷ [])) more
        ∙ ap (λ c. Ok (c ∷ bs)) (sym (newline refl))
    by false newline true return z same backslash more =
        ap (with_prefix (13 ∷ [])) more
        ∙ ap (λ c. Ok (c ∷ bs)) (sym (return refl))
    by false newline false return true same backslash more =
        ap (with_prefix (92 ∷ [])) more
        ∙ ap (λ c. Ok (c ∷ bs)) (sym (backslash refl))
    by false newline false return false same backslash more =
        rw same (ap (with_prefix (b ∷ [])) more)

-- the same of a replacement that may be left out
maybe_read : (text : Option (List ℕ))
    → unescaped (unwrap_or (option_map escaped text) []) ≡ Ok (unwrap_or text [])
maybe_read None = refl
maybe_read (Some text) = replacement_read text

-- ---- edits

-- the text of an edit is read from its line
text_read : (start : ℕ) (range : Range ℕ) (text : Option (List ℕ)) → range.start < 2 ^ 64
    → range.end < 2 ^ 64
    → unescaped (replacement_of (line_at start (EditLine range text))) ≡ Ok (unwrap_or text [])
text_read start range text first last =
    ap unescaped (fields_read range (option_map escaped text) first last).text ∙ maybe_read text

-- it has no error
pub no_escape_fault : (start : ℕ) (range : Range ℕ) (text : Option (List ℕ))
    → range.start < 2 ^ 64 → range.end < 2 ^ 64
    → escape_fault (line_at start (EditLine range text)) ≡ None
unfolding escape_fault
no_escape_fault start range text first last = rw (text_read start range text first last) refl

-- an edit, from what is read of its fields
edit_of : (range : Range ℕ) (text : List ℕ) (first last : Option ℕ)
    (read : Result (List ℕ) (List ℕ))
    → first ≡ Some range.start → last ≡ Some range.end → read ≡ Ok text
    → ◌≡◌ {A = TextEdit}
    (record {
      start = unwrap_or first 0;
      end = unwrap_or last 0;
      replacement = unwrap_or (result_ok read) [];
    })
    (record { start = range.start; end = range.end; replacement = text })
edit_of range text first last read p q r = rw (p, q, r) refl

edit_read : (start : ℕ) (range : Range ℕ) (text : Option (List ℕ)) → range.start < 2 ^ 64
    → range.end < 2 ^ 64
    → parsed_edit (line_at start (EditLine range text))
    ≡ record { start = range.start; end = range.end; replacement = unwrap_or text [] }
edit_read start range text first last =
    let line : ScriptLineView = line_at start (EditLine range text) in
    let read = fields_read range (option_map escaped text) first last in
    edit_of range (unwrap_or text []) (number_of (field_of (rest_of line)))
    (number_of (field_of (past_space (rest_of line)))) (unescaped (replacement_of line))
    read.first read.last (text_read start range text first last)

-- ---- suggestions

-- the byte at which the next line starts
abbrev next_line : ℕ → Statement → ℕ
next_line start s = start + length (statement_line s) + 1

-- the edits of a suggestion are read from the lines after it
edits_read : (start : ℕ) (ss : List Statement) → AllByRecursion IsStatable ss
    → map parsed_edit (edit_lines (statement_lines start ss)) ≡ stated_edits ss
edits_read start [] can = refl
edits_read start (SuggestionLine message ∷ ss) can = refl
edits_read start (EditLine range text ∷ ss) can =
    let edits : List TextEdit =
    map parsed_edit (edit_lines (statement_lines (next_line start (EditLine range text)) ss)) in
    ap (λ edit. edit ∷ edits) (edit_read start range text can.0.0 can.0.1)
    ∙ ap
    (λ es. record { start = range.start; end = range.end; replacement = unwrap_or text [] } ∷ es)
    (edits_read (next_line start (EditLine range text)) ss can.1)
edits_read start (LabelLine Primary range text ∷ ss) can =
    edits_read (next_line start (LabelLine Primary range text)) ss can.1
edits_read start (LabelLine Secondary range text ∷ ss) can =
    edits_read (next_line start (LabelLine Secondary range text)) ss can.1
edits_read start (CommentLine text ∷ ss) can =
    let next : ℕ = next_line start (CommentLine text) in
    let lines : List ScriptLineView = edit_lines (statement_lines next ss) in
    ap
    (λ word. map parsed_edit (if bytes_eq word (codes "suggestion") then []
    else if bytes_eq word (codes "replace") then line_at start (CommentLine text) ∷ lines
    else lines))
    (comment_word text)
    ∙ edits_read next ss can.1
edits_read start (s ∷ ss) can = edits_read (next_line start s) ss can.1

-- all suggestions are read from their lines
pub suggestions_read : (start : ℕ) (ss : List Statement) → AllByRecursion IsStatable ss
    → parsed_suggestions (statement_lines start ss) ≡ stated_suggestions ss
suggestions_read start [] can = refl
suggestions_read start (SuggestionLine message ∷ ss) can =
    let next : ℕ = next_line start (SuggestionLine message) in
    ap (λ edits. suggestion_of message edits ∷ parsed_suggestions (statement_lines next ss))
    (edits_read next ss can.1)
    ∙ ap (λ others. suggestion_of message (stated_edits ss) ∷ others)
    (suggestions_read next ss can.1)
suggestions_read start (LabelLine Primary range text ∷ ss) can =
    suggestions_read (next_line start (LabelLine Primary range text)) ss can.1
suggestions_read start (LabelLine Secondary range text ∷ ss) can =
    suggestions_read (next_line start (LabelLine Secondary range text)) ss can.1
suggestions_read start (CommentLine text ∷ ss) can =
    let next : ℕ = next_line start (CommentLine text) in
    let lines : List ScriptLineView = statement_lines next ss in
    ap
    (λ word. if bytes_eq word (codes "suggestion")
    then suggestion_of (rest_of (line_at start (CommentLine text)))
    (map parsed_edit (edit_lines lines)) ∷ parsed_suggestions lines
    else parsed_suggestions lines)
    (comment_word text)
    ∙ suggestions_read next ss can.1
suggestions_read start (s ∷ ss) can = suggestions_read (next_line start s) ss can.1

-- edits of one file, without it
pub edits_of_file : (edits : List TextEdit)
    → map (λ (edit : EditView (Unit {0})). edit.edit)
    (map (λ edit. record { file_id = tt; edit = edit }) edits) ≡ edits
edits_of_file [] = refl
edits_of_file (edit ∷ edits) = ap (λ es. edit ∷ es) (edits_of_file edits)

-- where all edits can be made, none has an error
pub no_suggestions_fault : (source : List ℕ) (start : ℕ) (ss : List Statement)
    → AllByRecursion IsStatable ss
    → AllByRecursion (CanBeMade source) (stated_suggestions ss)
    → suggestions_fault source (statement_lines start ss) ≡ None
no_suggestions_fault source start [] can fine = refl
no_suggestions_fault source start (SuggestionLine message ∷ ss) can fine =
    let next : ℕ = next_line start (SuggestionLine message) in
    let lines : List ScriptLineView = statement_lines next ss in
    let none : fault source (map parsed_edit (edit_lines lines)) ≡ None =
    ap (fault source) (edits_read next ss can.1 ∙ sym (edits_of_file (stated_edits ss)))
    ∙ fine.0 in
    ap
    (λ f. or_fault (option_and_then (fault_of_edits (edit_lines lines)) f)
    (suggestions_fault source lines))
    none
    ∙ no_suggestions_fault source next ss can.1 fine.1
no_suggestions_fault source start (LabelLine Primary range text ∷ ss) can fine =
    no_suggestions_fault source (next_line start (LabelLine Primary range text)) ss can.1 fine
no_suggestions_fault source start (LabelLine Secondary range text ∷ ss) can fine =
    no_suggestions_fault source (next_line start (LabelLine Secondary range text)) ss can.1 fine
no_suggestions_fault source start (CommentLine text ∷ ss) can fine =
    let next : ℕ = next_line start (CommentLine text) in
    let lines : List ScriptLineView = statement_lines next ss in
    ap
    (λ word. if bytes_eq word (codes "suggestion")
    then or_fault (edits_fault source (edit_lines lines)) (suggestions_fault source lines)
    else suggestions_fault source lines)
    (comment_word text)
    ∙ no_suggestions_fault source next ss can.1 fine
no_suggestions_fault source start (s ∷ ss) can fine =
    no_suggestions_fault source (next_line start s) ss can.1 fine

-- ---- edits come after a suggestion

-- whether a line begins with the word
abbrev pub HasLine : List ℕ → List ScriptLineView → Type 0
HasLine word lines = is_some (line_of_word word lines) ≡ true

-- a suggestion comes before the statements, or none of them is an edit before their first one
abbrev pub Belong : List ScriptLineView → List Statement → Type 0
Belong before ss = HasLine (codes "suggestion") before ⊎ (stated_edits ss ≡ [])

has_line_more : (word : List ℕ) (before : List ScriptLineView) (line : ScriptLineView)
    → HasLine word before → HasLine word (before ++ line ∷ [])
has_line_more word [] line has = absurd (cc has)
has_line_more word (first ∷ before) line has =
    by (bytes_eq (word_of first) word) has (has_line_more word before line)
  where
    by : (b : Bool) → is_some (if b then Some first else line_of_word word before) ≡ true
        → (HasLine word before → HasLine word (before ++ line ∷ []))
        → is_some (if b then Some first else line_of_word word (before ++ line ∷ [])) ≡ true
    by true has later = refl
    by false has later = later has

has_line_last : (word : List ℕ) (before : List ScriptLineView) (line : ScriptLineView)
    → bytes_eq (word_of line) word ≡ true → HasLine word (before ++ line ∷ [])
has_line_last word [] line is = rw is refl
has_line_last word (first ∷ before) line is =
    by (bytes_eq (word_of first) word) (has_line_last word before line is)
  where
    by : (b : Bool) → HasLine word (before ++ line ∷ [])
        → is_some (if b then Some first else line_of_word word (before ++ line ∷ [])) ≡ true
    by true later = refl
    by false later = later

-- one more statement comes before them
pub belong_more : (before : List ScriptLineView) (start : ℕ) (s : Statement)
    (ss : List Statement) → Belong before (s ∷ ss)
    → Belong (before ++ line_at start s ∷ []) ss
belong_more before start s ss (inl has) =
    inl (has_line_more (codes "suggestion") before (line_at start s) has)
belong_more before start (SuggestionLine message) ss (inr none) =
    inl (has_line_last (codes "suggestion") before (line_at start (SuggestionLine message)) refl)
belong_more before start (EditLine range text) ss (inr none) = absurd (cc none)
belong_more before start s ss (inr none) = inr none

-- an edit comes after a suggestion
pub after_suggestion : (before : List ScriptLineView) (range : Range ℕ)
    (text : Option (List ℕ)) (ss : List Statement) → Belong before (EditLine range text ∷ ss)
    → HasLine (codes "suggestion") before
after_suggestion before range text ss (inl has) = has
after_suggestion before range text ss (inr none) = absurd (cc none)

-- the line of an edit that comes after a suggestion has no error
pub no_replace_fault : (before : List ScriptLineView) (start : ℕ) (range : Range ℕ)
    (text : Option (List ℕ)) → range.start < 2 ^ 64 → range.end < 2 ^ 64
    → HasLine (codes "suggestion") before
    → number_fault (line_at start (EditLine range text)) ≡ None
    → replace_fault before (line_at start (EditLine range text)) ≡ None
unfolding replace_fault
no_replace_fault before start range text first last has numbers =
    rw (has, numbers, no_escape_fault start range text first last) refl
