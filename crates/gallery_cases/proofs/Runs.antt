-- For the clauses of `rendering::runs_over` and `rendering::runs_of_case`: the runs of a case are
-- those of its output.
use Rattle.std.proofs.Common.{◌≡◌, ◌++◌, ℕ, List, IsSome, None, Some, refl, ◌∙◌, ap}
use Rattle.std.specs.List.{slice_get}
use Rattle.std.specs.Option.{option_map_or}
use Rattle.codespan_base.specs.declared.diagnostic.Diagnostic.{Diagnostic}
use Rattle.codespan_base.specs.declared.term.config.Config.{Config}
use Rattle.codespan_base.specs.FileModel.{FileDatabase}
use Rattle.codespan_base.specs.SimpleModel.{missing_file, simple_file, database_file}
use Rattle.codespan_output.proofs.Outputs.StatedNames.{output_stated}
use Rattle.codespan_styled.specs.Outputs.{AreRuns}
use Rattle.codespan_styled.specs.Runs.{RunView, runs_of}
use Rattle.codespan_suggestions.specs.declared.suggestion.Suggestion.{Suggestion}
use Rattle.gallery_cases.specs.CaseOutputs.{AreNamed}
use Rattle.gallery_cases.specs.Documents.{AreRunsOver, suggestion_runs}
use Rattle.gallery_cases.specs.Database.{BorrowedFile}

module _ {Id : Type 0} (config : Config) (files : FileDatabase Id) (d : Diagnostic Id) where
  -- where names are stated, the runs of an output with some loci, and then those of suggestions,
  -- are those of the outputs
  pub stated_runs : (suggestions : List (Suggestion Id)) (first runs : List RunView)
      → AreRuns config files d first → AreNamed files
      → runs ≡ first ++ suggestion_runs config files suggestions
      → AreRunsOver config files d suggestions runs
  stated_runs suggestions first runs are named is = record {
    lookups_succeed = are.succeeds.lookups_succeed;
    are =
        is
        ∙ ap (λ xs. xs ++ suggestion_runs config files suggestions)
        (are.runs_are
        ∙ ap runs_of
        (are.is_output.stream_is
        ∙ output_stated files d (λ x contains. named x.file_id) config.display_style config config
        are.is_output.loci are.is_output.are_loci));
  }

-- the names of the files of a database are stated
pub named_in_database : (files : List BorrowedFile) (id : ℕ)
    → IsSome (database_file (λ name. Some name.now) (λ source. source.now) files id).name
named_in_database files id =
    elim (slice_get files id) as (λ found. IsSome
    (option_map_or (λ (entry : BorrowedFile). simple_file (Some entry.0.now) entry.1.now)
    found missing_file).name)
    [ None ↦ refl | Some entry ↦ refl ]
