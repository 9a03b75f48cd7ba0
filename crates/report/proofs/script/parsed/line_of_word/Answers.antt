use Rattle.codespan_core.proofs.Std.{◌≡◌, ℕ, true, false, cond, List, [], ◌∷◌, Some}
use Rattle.codespan_core.proofs.Std.{map, refl, ap, ◌∙◌, rules, tests, option_map, bytes_eq}
use Rattle.std.specs.List.{find}
use Rattle.std.proofs.lemmas.Iterator.{YieldsList-from_slice}
use Rattle.std.proofs.lemmas.Iterator.Search.{find_from_yields_List}
use Rattle.report.specs.declared.script.line.Line.{Line}
use Rattle.report.specs.ScriptFaults.{line_of_word}
use Rattle.report.specs.ScriptLines.{script_line_view, word_of}
use Rattle.report.proofs.script.parsed.line_of_word.Goals as goal

-- the first line of which the test is true is the one that begins with the word
found : (word : List ℕ) (lines : List Line)
    → option_map script_line_view
    (find (λ line. bytes_eq (word_of (script_line_view line)) word) lines)
    ≡ line_of_word word (map script_line_view lines)
found word [] = refl
found word (line ∷ lines) =
    elim (bytes_eq (word_of (script_line_view line)) word) as
    (λ same. option_map script_line_view
    (cond same (Some line)
    (find (λ line. bytes_eq (word_of (script_line_view line)) word) lines))
    ≡ cond same (Some (script_line_view line))
    (line_of_word word (map script_line_view lines)))
    [ true ↦ refl | false ↦ found word lines ]

pub returns : goal.returns
returns c =
    let word = c.args.word.now in
    let first = find_from_yields_List
    (λ (line : Line). bytes_eq (word_of (script_line_view line)) word) _ _ c.find.result
    c.find.ensures.ran (YieldsList-from_slice c.args.lines.now cc)
    (λ x b q k. search (rules, tests)) in
    ap (option_map script_line_view) (c.copied.ensures ∙ first) ∙ found word c.args.lines.now
