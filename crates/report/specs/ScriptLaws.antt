-- What is read of a script that is written from its statements, and where the errors of an input
-- are.
use Rattle.std.specs.Prelude.{◌≡◌, ℕ, ◌≤◌, List, length, Ok, IfErr, IfOk, IfSome}
use Rattle.std.specs.List.{All}
use Rattle.std.specs.Str.{IsCharBoundary, IsUtf8}
use Rattle.std.specs.declared.ops.Range.{Range}
use Rattle.report.specs.declared.script.Fault.{Fault}
use Rattle.report.specs.Scripts.{parsed_script}
use Rattle.report.specs.Statements.{AreScript, CanBeMade, Statement, stated_script}
use Rattle.report.specs.Statements.{stated_suggestions}
use Rattle.report.specs.Statements.{written_script}

-- a script that is written out from its statements, whose edits can be made in the source, is read
-- as what they state
abbrev pub ScriptReadsBack : List Statement → List ℕ → Type 0
ScriptReadsBack statements source =
    AreScript statements → All (CanBeMade source) (stated_suggestions statements)
    → parsed_script (written_script statements source) ≡ Ok (stated_script statements source)

-- the range does not end before it starts, and lies inside the input, between characters
pub record LiesIn (input : List ℕ) (range : Range ℕ) : Type 0 where
  pub in_order : range.start ≤ range.end
  pub within : range.end ≤ length input
  pub starts : IsCharBoundary input range.start
  pub ends : IsCharBoundary input range.end

-- the ranges of an error lie inside the input
pub record FaultLiesIn (input : List ℕ) (fault : Fault) : Type 0 where
  pub inside : LiesIn input fault.range
  pub first : IfSome fault.first (LiesIn input)

-- where an input that is UTF-8 is not a script, the ranges of its error lie inside it
abbrev pub FaultsLieInside : List ℕ → Type 0
FaultsLieInside input = IsUtf8 input → IfErr (parsed_script input) (FaultLiesIn input)

-- where an input is a script, the edits of each of its suggestions can be made in its source
abbrev pub EditsCanBeMade : List ℕ → Type 0
EditsCanBeMade input =
    IfOk (parsed_script input)
    (λ script. All (CanBeMade script.source) script.suggestions)
