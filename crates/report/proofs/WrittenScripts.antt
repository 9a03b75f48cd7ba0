-- For the clause of `laws::scripts_read_back`: the lines of a script that is written out from its
-- statements.
use Rattle.codespan_core.proofs.Std.{◌≡◌, ◌≢◌, ℕ, suc, zero, ◌+◌, ◌-◌}
use Rattle.codespan_core.proofs.Std.{◌^◌, ◌<◌, ◌==◌, Bool, true, false, option_map}
use Rattle.codespan_core.proofs.Std.{List, [], ◌∷◌, ◌++◌, length, get_or, take, drop}
use Rattle.codespan_core.proofs.Std.{Option, Some, None, IfSome, codes, bytes_eq, ltb, refl, sym}
use Rattle.codespan_core.proofs.Std.{ap, ◌∙◌, arith, if◌then◌else◌, append_assoc}
use Rattle.codespan_core.proofs.Std.{subst}
use Rattle.codespan_core.proofs.Std.{append-nil, eq-eqb, ne_eqb, length-append, take_all, All}
use Rattle.codespan_core.proofs.Std.{decimal, AllByRecursion, position_or_len, slice_split}
use Rattle.codespan_core.proofs.Std.{and_parts, ltb-true, drop_all}
use Rattle.std.proofs.Common.{take_at}
use Rattle.std.specs.List.{list_all}
use Rattle.std.specs.Str.Lines.{strip_carriage_return}
use Rattle.std.specs.declared.ops.Range.{Range}
use Rattle.std.proofs.lemmas.List.{get_or_append_left, get_or_at}
use Rattle.std.proofs.lemmas.List.Sums.{position_or_len_is}
use Rattle.codespan_core.specs.declared.diagnostic.Severity.TheVariants.{Bug, Error, Warning, Note}
use Rattle.codespan_core.specs.declared.diagnostic.Severity.TheVariants.{Help}
use Rattle.codespan_output.specs.Types.{Primary, Secondary, Severity}
use Rattle.program_io.specs.Fields.{field_of, is_space, past_space}
use Rattle.report.specs.Statements.{IsLineSuffix, IsStatable, Statement, joined_fields}
use Rattle.report.specs.Statements.{label_fields, statement_line, written_script, escaped}
use Rattle.codespan_core.specs.Diagnostics.{severity_name}
use Rattle.report.specs.Statements.Statement.{SeverityLine, CodeLine, MessageLine, LabelLine}
use Rattle.report.specs.Statements.Statement.{NoteLine, CommentLine, EmptyLine, SuggestionLine}
use Rattle.report.specs.Statements.Statement.{EditLine, WidthLine}
use Rattle.report.specs.ScriptLines.{ScriptLineView, body, is_newline, script_lines_from}
use Rattle.report.specs.ScriptLines.{script_source}
use Rattle.report.proofs.Numbers.{digits_of_decimal}
use Rattle.report.proofs.ScriptCuts.{Lacks, past_one, left_after, line_then, pieces_at, some_piece}

-- ---- fields

-- a text without a space is one field, and nothing follows it
pub field_alone : (xs : List ℕ) → Lacks 32 xs → field_of xs ≡ xs
field_alone xs lacks =
    let end : position_or_len is_space xs ≡ length xs =
    position_or_len_is is_space xs (length xs) 0 (omega arith)
    (λ k below. ne_eqb _ _ (lacks k below)) (λ past. absurd (omega arith)) in
    ap (λ n. take n xs) end ∙ take_all (length xs) xs (omega arith)

pub past_alone : (xs : List ℕ) → Lacks 32 xs → past_space xs ≡ []
past_alone xs lacks =
    let end : position_or_len is_space xs ≡ length xs =
    position_or_len_is is_space xs (length xs) 0 (omega arith)
    (λ k below. ne_eqb _ _ (lacks k below)) (λ past. absurd (omega arith)) in
    ap (λ n. drop (n + 1) xs) end ∙ drop_all (length xs + 1) xs (omega arith)

-- the first of two fields ends at the space between them
space_at : (xs ys : List ℕ) → Lacks 32 xs
    → position_or_len is_space (joined_fields xs ys) ≡ length xs
space_at xs ys lacks =
    position_or_len_is is_space (xs ++ 32 ∷ ys) (length xs) 0
    (omega (arith, length-append xs (32 ∷ ys)))
    (λ k below. ne_eqb _ _
    (λ is. lacks k below (sym (get_or_append_left xs (32 ∷ ys) 0 k below) ∙ is)))
    (λ within. eq-eqb _ _ (get_or_at xs 32 ys 0 (length xs) refl))

pub first_field : (xs ys : List ℕ) → Lacks 32 xs → field_of (joined_fields xs ys) ≡ xs
first_field xs ys lacks =
    ap (λ n. take n (xs ++ 32 ∷ ys)) (space_at xs ys lacks)
    ∙ take_at xs (32 ∷ ys) (length xs) refl

pub past_field : (xs ys : List ℕ) → Lacks 32 xs → past_space (joined_fields xs ys) ≡ ys
past_field xs ys lacks =
    ap (λ n. drop (n + 1) (xs ++ 32 ∷ ys)) (space_at xs ys lacks) ∙ past_one 32 xs ys

-- digits have no space
pub no_space : (n : ℕ) → n < 2 ^ 64 → Lacks 32 (decimal n)
no_space n fits i below is = let digit = digits_of_decimal n fits i below in
    omega (arith, digit.0, is)

-- ---- the texts of lines

-- each byte is greater than those that end lines
abbrev AreAbove : List ℕ → Type 0
AreAbove xs = (i : ℕ) → i < length xs → 13 < get_or xs i 0

above : (xs : List ℕ) → list_all (ltb 13) xs ≡ true → AreAbove xs
above [] all i below = absurd (omega arith)
above (x ∷ xs) all zero below = ltb-true 13 x (and_parts (ltb 13 x) (list_all (ltb 13) xs) all).0
above (x ∷ xs) all (suc i) below =
    above xs (and_parts (ltb 13 x) (list_all (ltb 13) xs) all).1 i (omega arith)

end_nothing : IsLineSuffix []
end_nothing =
    record {
      no_newline =
          λ k d below. absurd (omega arith);
      no_carriage_return = λ is. absurd (omega (arith, is));
    }

newline_none : (x : ℕ) (xs : List ℕ) → x ≢ 10 → All (λ b. b ≢ 10) xs
    → All (λ b. b ≢ 10) (x ∷ xs)
newline_none x xs other none zero d below = λ is. other is
newline_none x xs other none (suc k) d below = none k d (omega arith)

return_none : (x : ℕ) (xs : List ℕ) → x ≢ 13 → get_or xs (length xs - 1) 0 ≢ 13
    → get_or (x ∷ xs) (length (x ∷ xs) - 1) 0 ≢ 13
return_none x [] other none is = other is
return_none x (y ∷ ys) other none is =
    let last : length (x ∷ y ∷ ys) - 1 ≡ suc (length (y ∷ ys) - 1) = omega arith in
    none (sym (ap (λ n. get_or (x ∷ y ∷ ys) n 0) last) ∙ is)

-- a byte that ends no line before a text that can be a suffix of a line
end_byte : (x : ℕ) (ys : List ℕ) → x ≢ 10 → x ≢ 13 → IsLineSuffix ys
    → IsLineSuffix (x ∷ ys)
end_byte x ys newline return end = record {
  no_newline = newline_none x ys newline end.no_newline;
  no_carriage_return = return_none x ys return end.no_carriage_return;
}

-- such bytes before a text that can be a suffix of a line
end_after : (xs ys : List ℕ) → AreAbove xs → IsLineSuffix ys → IsLineSuffix (xs ++ ys)
end_after [] ys large end = end
end_after (x ∷ xs) ys large end =
    let first : 13 < x = large 0 (omega arith) in
    end_byte x (xs ++ ys) (λ is. absurd (omega (arith, first, is)))
    (λ is. absurd (omega (arith, first, is)))
    (end_after xs ys (λ i below. large (suc i) (omega arith)) end)

-- numbers that are not found equal are not
different : (m n : ℕ) → (m == n) ≡ false → m ≢ n
different m n unequal is = absurd (cc (eq-eqb m n is, unequal))

-- a replacement, as it is written, ends no line
end_escaped : (text : List ℕ) → IsLineSuffix (escaped text)
end_escaped [] = end_nothing
end_escaped (b ∷ bs) =
    by (b == 10) (b == 13) (b == 92) (different b 10) (different b 13) (end_escaped bs)
  where
    by : (x y z : Bool) → (x ≡ false → b ≢ 10) → (y ≡ false → b ≢ 13)
        → IsLineSuffix (escaped bs)
        → IsLineSuffix ((if x then codes "\\n" else if y then codes "\\r"
        else if z then codes "\\\\" else b ∷ []) ++ escaped bs)
    by true y z newline return more =
        end_after (codes "\\n") (escaped bs) (above (codes "\\n") refl) more
    by false true z newline return more =
        end_after (codes "\\r") (escaped bs) (above (codes "\\r") refl) more
    by false false true newline return more =
        end_after (codes "\\\\") (escaped bs) (above (codes "\\\\") refl) more
    by false false false newline return more =
        end_byte b (escaped bs) (newline refl) (return refl) more

end_replacement : (text : Option (List ℕ)) → IfSome (option_map escaped text) IsLineSuffix
end_replacement None = tt
end_replacement (Some text) = end_escaped text

end_decimal : (n : ℕ) (ys : List ℕ) → n < 2 ^ 64 → IsLineSuffix ys
    → IsLineSuffix (decimal n ++ ys)
end_decimal n ys fits end =
    end_after (decimal n) ys
    (λ i below. let digit = digits_of_decimal n fits i below in omega (arith, digit.0)) end

end_label : (range : Range ℕ) (message : Option (List ℕ))
    → (range.start < 2 ^ 64) × (range.end < 2 ^ 64) × IfSome message IsLineSuffix
    → IsLineSuffix (label_fields range message)
end_label range None fits =
    end_decimal range.start (32 ∷ decimal range.end) fits.0
    (end_after (32 ∷ []) (decimal range.end) (above (32 ∷ []) refl)
    (rw (← append-nil (decimal range.end)) (end_decimal range.end [] fits.1 end_nothing)))
end_label range (Some message) fits =
    end_decimal range.start (32 ∷ (decimal range.end ++ 32 ∷ message)) fits.0
    (end_after (32 ∷ []) (decimal range.end ++ 32 ∷ message) (above (32 ∷ []) refl)
    (end_decimal range.end (32 ∷ message) fits.1
    (end_after (32 ∷ []) message (above (32 ∷ []) refl) fits.2)))

end_name : (severity : Severity) → IsLineSuffix (severity_name severity)
end_name Bug = end_after (codes "bug") [] (above (codes "bug") refl) end_nothing
end_name Error = end_after (codes "error") [] (above (codes "error") refl) end_nothing
end_name Warning = end_after (codes "warning") [] (above (codes "warning") refl) end_nothing
end_name Note = end_after (codes "note") [] (above (codes "note") refl) end_nothing
end_name Help = end_after (codes "help") [] (above (codes "help") refl) end_nothing

-- a statement is written in one line
line_ends : (s : Statement) → IsStatable s → IsLineSuffix (statement_line s)
line_ends (SeverityLine severity) can =
    end_after (codes "severity ") (severity_name severity) (above (codes "severity ") refl)
    (end_name severity)
line_ends (CodeLine text) can = end_after (codes "code ") text (above (codes "code ") refl) can
line_ends (MessageLine text) can =
    end_after (codes "message ") text (above (codes "message ") refl) can
line_ends (WidthLine width) can =
    end_after (codes "width ") (decimal width) (above (codes "width ") refl)
    (subst IsLineSuffix (append-nil (decimal width)) (end_decimal width [] can end_nothing))
line_ends (LabelLine Primary range message) can =
    end_after (codes "primary ") (label_fields range message) (above (codes "primary ") refl)
    (end_label range message can)
line_ends (LabelLine Secondary range message) can =
    end_after (codes "secondary ") (label_fields range message) (above (codes "secondary ") refl)
    (end_label range message can)
line_ends (NoteLine text) can = end_after (codes "note ") text (above (codes "note ") refl) can
line_ends (SuggestionLine text) can =
    end_after (codes "suggestion ") text (above (codes "suggestion ") refl) can
line_ends (EditLine range replacement) can =
    end_after (codes "replace ") (label_fields range (option_map escaped replacement))
    (above (codes "replace ") refl)
    (end_label range (option_map escaped replacement) (can.0, can.1, end_replacement replacement))
line_ends (CommentLine text) can = end_after (35 ∷ []) text (above (35 ∷ []) refl) can
line_ends EmptyLine can = end_nothing

-- the line of a statement loses no carriage return
line_unchanged : (s : Statement) → IsStatable s
    → strip_carriage_return (statement_line s) ≡ statement_line s
line_unchanged s can =
    ap
    (λ b. if b then take (length (statement_line s) - 1) (statement_line s) else statement_line s)
    (ne_eqb _ _ (line_ends s can).no_carriage_return)

-- and is not the line `---`
line_goes_on : (s : Statement) → bytes_eq (statement_line s) (codes "---") ≡ false
line_goes_on (SeverityLine severity) = refl
line_goes_on (CodeLine text) = refl
line_goes_on (MessageLine text) = refl
line_goes_on (WidthLine width) = refl
line_goes_on (LabelLine Primary range message) = refl
line_goes_on (LabelLine Secondary range message) = refl
line_goes_on (NoteLine text) = refl
line_goes_on (SuggestionLine text) = refl
line_goes_on (EditLine range replacement) = refl
line_goes_on (CommentLine text) = refl
line_goes_on EmptyLine = refl

-- ---- the lines of a script that is written out

-- the line of a statement, where it starts
abbrev pub line_at : ℕ → Statement → ScriptLineView
line_at start s =
    record { start = start; text = statement_line s; next = start + length (statement_line s) + 1 }

-- the lines of statements, one after another
abbrev pub statement_lines : ℕ → List Statement → List ScriptLineView
statement_lines start [] = []
statement_lines start (s ∷ ss) =
    line_at start s ∷ statement_lines (start + length (statement_line s) + 1) ss

-- the line of the first statement, and what is written after it
written_after : (s : Statement) (ss : List Statement) (source : List ℕ)
    → written_script (s ∷ ss) source ≡ statement_line s ++ 10 ∷ written_script ss source
written_after s ss source = simp append_assoc

first_line : (start : ℕ) (s : Statement) (ss : List Statement) (source : List ℕ)
    → IsStatable s
    → script_lines_from start (slice_split is_newline (written_script (s ∷ ss) source))
    ≡ line_at start s
    ∷ script_lines_from (start + length (statement_line s) + 1)
    (slice_split is_newline (written_script ss source))
first_line start s ss source can =
    let pieces : List (List ℕ) = slice_split is_newline (written_script ss source) in
    let lacks : Lacks 10 (statement_line s) = λ i below. (line_ends s can).no_newline i 0 below in
    ap (λ text. script_lines_from start (slice_split is_newline text)) (written_after s ss source)
    ∙ ap (script_lines_from start)
    (pieces_at 10 (statement_line s) (written_script ss source) lacks)
    ∙ line_then start (statement_line s) pieces (some_piece is_newline (written_script ss source))
    ∙ ap
    (λ text. record { start = start; text = text; next = start + length (statement_line s) + 1 }
    ∷ script_lines_from (start + length (statement_line s) + 1) pieces)
    (line_unchanged s can)

end_line : (start : ℕ) (source : List ℕ)
    → script_lines_from start (slice_split is_newline (written_script [] source))
    ≡ record { start = start; text = codes "---"; next = start + 3 + 1 }
    ∷ script_lines_from (start + 3 + 1) (slice_split is_newline source)
end_line start source =
    ap (script_lines_from start) (pieces_at 10 (codes "---") source no_newline)
    ∙ line_then start (codes "---") (slice_split is_newline source) (some_piece is_newline source)
  where
    no_newline : Lacks 10 (codes "---")
    no_newline i below is = let large = above (codes "---") refl i below in omega (arith, large, is)

pub body_written : (start : ℕ) (ss : List Statement) (source : List ℕ)
    → AllByRecursion IsStatable ss
    → body (script_lines_from start (slice_split is_newline (written_script ss source)))
    ≡ statement_lines start ss
body_written start [] source can = ap body (end_line start source)
body_written start (s ∷ ss) source can =
    let next : ℕ = start + length (statement_line s) + 1 in
    let lines : List ScriptLineView =
    script_lines_from next (slice_split is_newline (written_script ss source)) in
    ap body (first_line start s ss source can.0)
    ∙ ap (λ b. if b then [] else line_at start s ∷ body lines) (line_goes_on s)
    ∙ ap (λ ls. line_at start s ∷ ls) (body_written next ss source can.1)

pub source_written : (input : List ℕ) (start : ℕ) (ss : List Statement) (source : List ℕ)
    → AllByRecursion IsStatable ss → drop start input ≡ written_script ss source
    → script_source input
    (script_lines_from start (slice_split is_newline (written_script ss source))) ≡ Some source
source_written input start [] source can is =
    ap (script_source input) (end_line start source)
    ∙ ap Some (left_after input start (codes "---") source is)
source_written input start (s ∷ ss) source can is =
    let next : ℕ = start + length (statement_line s) + 1 in
    let lines : List ScriptLineView =
    script_lines_from next (slice_split is_newline (written_script ss source)) in
    ap (script_source input) (first_line start s ss source can.0)
    ∙ ap (λ b. if b then Some (drop next input) else script_source input lines) (line_goes_on s)
    ∙ source_written input next ss source can.1
    (left_after input start (statement_line s) (written_script ss source)
    (is ∙ written_after s ss source))
