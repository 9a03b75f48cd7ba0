-- For the clause of `laws::scripts_read_back`: what is read of a script that is written out from
-- its statements.
use Rattle.codespan_core.proofs.Std.{◌≡◌, ℕ, suc, ◌≤◌, List, [], ◌∷◌, length}
use Rattle.codespan_core.proofs.Std.{map, Option, Some, None, Ok, inr, codes, refl, ap, ◌∙◌}
use Rattle.codespan_core.proofs.Std.{arith, unwrap_or, All, option_map, slice_get, filter_map}
use Rattle.codespan_core.proofs.Std.{AllByRecursion, cons_option, slice_split, length-map}
use Rattle.codespan_core.proofs.Std.{slice_get-map, decimal}
use Rattle.std.proofs.Common.{option_and_then}
use Rattle.codespan_core.specs.declared.diagnostic.Severity.TheVariants.{Error}
use Rattle.codespan_output.specs.Types.{Severity}
use Rattle.program_io.specs.Names.{severity_named}
use Rattle.report.specs.ScriptFaults.{fault_from}
use Rattle.report.specs.ScriptLaws.{ScriptReadsBack}
use Rattle.report.specs.Statements.{IsStatable, Statement, code_stated, label_stated}
use Rattle.report.specs.Statements.{message_stated, note_stated, first_stated, stated_diagnostic}
use Rattle.report.specs.Statements.{severity_stated, written_script, CanBeMade, stated_suggestions}
use Rattle.codespan_core.specs.Diagnostics.{severity_name}
use Rattle.report.specs.Scripts.{parsed_statements, script_diagnostic, parsed_label, parsed_note}
use Rattle.report.specs.Scripts.{parsed_lines, parsed_script, rest_of_word, parsed_severity}
use Rattle.report.specs.Scripts.{parsed_width}
use Rattle.report.specs.Requests.{number_of}
use Rattle.report.specs.Statements.Statement.{SeverityLine, CodeLine, MessageLine, LabelLine}
use Rattle.report.specs.Statements.Statement.{NoteLine, SuggestionLine, EditLine, CommentLine}
use Rattle.report.specs.Statements.Statement.{EmptyLine, WidthLine}
use Rattle.report.specs.Statements.{width_stated}
use Rattle.report.proofs.Numbers.{number_of-decimal}
use Rattle.report.specs.Suggestions.{parsed_suggestions}
use Rattle.report.proofs.ReadSuggestions.{no_suggestions_fault, suggestions_read}
use Rattle.report.specs.ScriptLines.{ScriptLineView, is_newline, script_lines_from, script_lines}
use Rattle.report.specs.ScriptLines.{script_source}
use Rattle.report.proofs.WrittenScripts.{statement_lines, body_written, source_written}
use Rattle.report.proofs.ReadLines.{rest_by, severity_read, code_read, message_read, note_read}
use Rattle.report.proofs.ReadLines.{name_read, label_read, all_read, width_read}
use Rattle.report.proofs.NoLineFaults.{rest_of_word_first, AreOnce, lines_right}

-- ---- what is read of all lines

-- the first severity by its name
severities_read : (ss : List Statement)
    → filter_map (λ s. option_map severity_name (severity_stated s)) ss ≡ map severity_name
    (filter_map severity_stated ss)
severities_read [] = refl
severities_read (s ∷ ss) = by_first (severity_stated s) (severities_read ss)
  where
    by_first : (first : Option Severity)
        → filter_map (λ s. option_map severity_name (severity_stated s)) ss ≡ map severity_name
        (filter_map severity_stated ss)
        → cons_option (option_map severity_name first)
        (filter_map (λ s. option_map severity_name (severity_stated s)) ss)
        ≡ map severity_name (cons_option first (filter_map severity_stated ss))
    by_first None is = is
    by_first (Some severity) is = ap (λ names. severity_name severity ∷ names) is

named_again : (severity : Option Severity)
    → option_and_then severity_named (option_map severity_name severity) ≡ severity
named_again None = refl
named_again (Some severity) = name_read severity

-- the first width by its digits
first_width : (ss : List Statement) → AllByRecursion IsStatable ss
    → option_and_then number_of
    (slice_get (filter_map (λ s. option_map decimal (width_stated s)) ss) 0)
    ≡ first_stated width_stated ss
first_width [] can = refl
first_width (SeverityLine severity ∷ ss) can = first_width ss can.1
first_width (CodeLine text ∷ ss) can = first_width ss can.1
first_width (MessageLine text ∷ ss) can = first_width ss can.1
first_width (WidthLine width ∷ ss) can = number_of-decimal width can.0
first_width (LabelLine style range message ∷ ss) can = first_width ss can.1
first_width (NoteLine text ∷ ss) can = first_width ss can.1
first_width (SuggestionLine text ∷ ss) can = first_width ss can.1
first_width (EditLine range replacement ∷ ss) can = first_width ss can.1
first_width (CommentLine text ∷ ss) can = first_width ss can.1
first_width (EmptyLine ∷ ss) can = first_width ss can.1

-- as many lines have a width as statements do
count_widths : (ss : List Statement)
    → length (filter_map (λ s. option_map decimal (width_stated s)) ss)
    ≡ length (filter_map width_stated ss)
count_widths [] = refl
count_widths (SeverityLine severity ∷ ss) = count_widths ss
count_widths (CodeLine text ∷ ss) = count_widths ss
count_widths (MessageLine text ∷ ss) = count_widths ss
count_widths (WidthLine width ∷ ss) = ap suc (count_widths ss)
count_widths (LabelLine style range message ∷ ss) = count_widths ss
count_widths (NoteLine text ∷ ss) = count_widths ss
count_widths (SuggestionLine text ∷ ss) = count_widths ss
count_widths (EditLine range replacement ∷ ss) = count_widths ss
count_widths (CommentLine text ∷ ss) = count_widths ss
count_widths (EmptyLine ∷ ss) = count_widths ss

module _ (ss : List Statement) (can : AllByRecursion IsStatable ss) where
  -- the names of the severities
  names_read : filter_map (rest_by (codes "severity")) (statement_lines 0 ss) ≡ map severity_name
      (filter_map severity_stated ss)
  names_read =
      all_read (rest_by (codes "severity")) (λ s. option_map severity_name (severity_stated s))
      severity_read 0 ss can
      ∙ severities_read ss

  severity_same : parsed_severity (statement_lines 0 ss) ≡ unwrap_or
      (first_stated severity_stated ss) Error
  unfolding parsed_severity
  severity_same =
      ap (λ name. unwrap_or (option_and_then severity_named name) Error)
      (rest_of_word_first (codes "severity") (statement_lines 0 ss)
      ∙ ap (λ names. slice_get names 0) names_read
      ∙ slice_get-map severity_name (filter_map severity_stated ss) 0)
      ∙ ap (λ severity. unwrap_or severity Error) (named_again (first_stated severity_stated ss))

  code_same : rest_of_word (codes "code") (statement_lines 0 ss) ≡ first_stated code_stated ss
  code_same =
      rest_of_word_first (codes "code") (statement_lines 0 ss)
      ∙ ap (λ rests. slice_get rests 0)
      (all_read (rest_by (codes "code")) code_stated code_read 0 ss can)

  message_same : rest_of_word (codes "message") (statement_lines 0 ss)
      ≡ first_stated message_stated ss
  message_same =
      rest_of_word_first (codes "message") (statement_lines 0 ss)
      ∙ ap (λ rests. slice_get rests 0)
      (all_read (rest_by (codes "message")) message_stated message_read 0 ss can)

  widths_read : filter_map (rest_by (codes "width")) (statement_lines 0 ss)
      ≡ filter_map (λ s. option_map decimal (width_stated s)) ss
  widths_read =
      all_read (rest_by (codes "width")) (λ s. option_map decimal (width_stated s)) width_read 0
      ss can

  width_same : parsed_width (statement_lines 0 ss) ≡ first_stated width_stated ss
  width_same =
      ap (λ rest. option_and_then number_of rest)
      (rest_of_word_first (codes "width") (statement_lines 0 ss)
      ∙ ap (λ rests. slice_get rests 0) widths_read)
      ∙ first_width ss can

  -- the lines state what the statements do
  diagnostic_same : script_diagnostic (statement_lines 0 ss) ≡ stated_diagnostic ss
  diagnostic_same = λ i. record {
    severity = severity_same i;
    code = code_same i;
    message = unwrap_or (message_same i) [];
    labels = all_read parsed_label label_stated label_read 0 ss can i;
    notes = all_read parsed_note note_stated note_read 0 ss can i;
  }

  -- and no word that may occur once is repeated
  all_once : length (filter_map severity_stated ss) ≤ 1
      → length (filter_map code_stated ss) ≤ 1
      → length (filter_map message_stated ss) ≤ 1 → length (filter_map width_stated ss) ≤ 1
      → AreOnce (statement_lines 0 ss)
  all_once severity code message width = record {
    severity = rw (names_read, length-map) severity;
    code = rw (all_read (rest_by (codes "code")) code_stated code_read 0 ss can) code;
    message =
        rw (all_read (rest_by (codes "message")) message_stated message_read 0 ss can) message;
    width = rw (widths_read, count_widths ss) width;
  }

-- what holds by the indices of elements holds of each
each_by_recursion : {X : Type 0} (P : X → Type 0) (ss : List X) → All P ss
    → AllByRecursion P ss
each_by_recursion P [] all = tt
each_by_recursion P (s ∷ ss) all =
    (all 0 s (omega arith), each_by_recursion P ss (λ k d below. all (suc k) d (omega arith)))

-- a script that is written out is read as its statements say
pub reads_back : (statements : List Statement) (source : List ℕ)
    → ScriptReadsBack statements source
unfolding parsed_script script_lines
reads_back ss source script made =
    let can = each_by_recursion IsStatable ss script.statable in
    let fine = each_by_recursion (CanBeMade source) (stated_suggestions ss) made in
    let input : List ℕ = written_script ss source in
    let lines : List ScriptLineView = script_lines_from 0 (slice_split is_newline input) in
    let found : script_source input lines ≡ Some source =
    source_written input 0 ss source can refl in
    let right : fault_from [] (statement_lines 0 ss) ≡ None = lines_right [] 0 ss can
    (all_once ss can script.one_severity script.one_code script.one_message script.one_width)
    (inr script.edits_belong) in
    ap (λ ls. parsed_lines input ls (fault_from [] ls) (script_source input lines))
    (body_written 0 ss source can)
    ∙ ap (λ fault. parsed_lines input (statement_lines 0 ss) fault (script_source input lines))
    right
    ∙ ap (parsed_lines input (statement_lines 0 ss) None) found
    ∙ ap (parsed_statements (statement_lines 0 ss) source)
    (no_suggestions_fault source 0 ss can fine)
    ∙ ap
    (λ diagnostic. Ok (record {
      diagnostic = diagnostic;
      max_width = parsed_width (statement_lines 0 ss);
      suggestions = parsed_suggestions (statement_lines 0 ss);
      source = source;
    }))
    (diagnostic_same ss can)
    ∙ ap
    (λ width. Ok (record {
      diagnostic = stated_diagnostic ss;
      max_width = width;
      suggestions = parsed_suggestions (statement_lines 0 ss);
      source = source;
    }))
    (width_same ss can)
    ∙ ap
    (λ suggestions. Ok (record {
      diagnostic = stated_diagnostic ss;
      max_width = first_stated width_stated ss;
      suggestions = suggestions;
      source = source;
    }))
    (suggestions_read 0 ss can)
