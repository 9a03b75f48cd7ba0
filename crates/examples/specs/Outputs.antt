-- Several outputs, one after another.
use Rattle.std.specs.Prelude.{◌≡◌, ℕ, List, [], ◌∷◌}
use Rattle.codespan_base.specs.FileModel.{FileDatabase}
use Rattle.codespan_output.specs.Types.{Config, Diagnostic}
use Rattle.codespan_reporting.specs.Output.{IsAppended}

-- the outputs of these diagnostics have been appended, in their order
abbrev pub AreAppended : {Id : Type 0}
    → Config → FileDatabase Id → List (Diagnostic Id) → List ℕ → List ℕ → Type 0
AreAppended config files [] old new = new ≡ old
AreAppended config files (d ∷ ds) old new =
    (middle : List ℕ) × IsAppended config files d old middle
    × AreAppended config files ds middle new
