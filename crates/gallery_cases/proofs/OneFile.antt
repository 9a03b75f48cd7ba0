-- For the clauses of `rendering::render` and `rendering::runs_of_case`: what holds over the file
-- database of a case.
use Rattle.std.proofs.Common.{◌≡◌, ℕ, List, [], map, Result, Ok, Err, OnOk, IfOk, sym}
use Rattle.std.proofs.Common.{subst}
use Rattle.codespan_base.specs.declared.diagnostic.Diagnostic.{Diagnostic}
use Rattle.codespan_base.specs.FileModel.{FileDatabase}
use Rattle.gallery_cases.specs.declared.case.Case.{Case}
use Rattle.gallery_cases.specs.declared.case.DatabaseKind.TheVariants.{One, Several, Mapped}
use Rattle.gallery_cases.specs.Cases.{file_view}
use Rattle.gallery_cases.specs.CaseOutputs.{HoldsOfCase, HoldsOfOnlyFile, HoldsOfAllFiles, Property}
use Rattle.gallery_cases.specs.CaseOutputs.{mapped_database, several_database, simple_database}
use Rattle.gallery_cases.specs.Database.{BorrowedFile, IsOnlyFile, borrowed_view, with_set_numbers}

-- it holds over all files of a case
pub over_several : (case : Case) (files : List BorrowedFile) (Holds : Property)
    → case.database_kind ≡ Several
    → map borrowed_view files ≡ map file_view case.files.items
    → Holds ℕ (several_database files) case.diagnostic case.suggestions.items
    → HoldsOfCase case.database_kind case Holds
over_several case files Holds kind same holds =
    let among : HoldsOfAllFiles case Holds = record { files = files; same = same; holds = holds } in
    subst (λ k. HoldsOfCase k case Holds) (sym kind) among

module _ (case : Case) (name source : List ℕ) (diagnostic : Diagnostic (Unit {0}))
    (only_file : IsOnlyFile case name source diagnostic) (Holds : Property) where
  -- it holds over such a database of its only file
  over_one_file : (database : List ℕ → List ℕ → FileDatabase (Unit {0}))
      → Holds (Unit {0}) (database name source) diagnostic [] → HoldsOfOnlyFile database case Holds
  over_one_file database holds =
      record {
        name =
            name;
        source =
            source;
        diagnostic =
            diagnostic;
        only = only_file.only;
        same = only_file.same;
        no_suggestions = only_file.no_suggestions;
        holds = holds;
      }

  -- it holds over a simple file
  pub over_one : case.database_kind ≡ One
      → Holds (Unit {0}) (simple_database name source) diagnostic []
      → HoldsOfCase case.database_kind case Holds
  over_one kind holds =
      subst (λ k. HoldsOfCase k case Holds) (sym kind) (over_one_file simple_database holds)

  -- it holds over a file whose line numbers are set
  pub over_mapped : case.database_kind ≡ Mapped → (set_numbers : List (ℕ × ℕ))
      → set_numbers ≡ with_set_numbers [] case.set_numbers.items
      → Holds (Unit {0}) (mapped_database set_numbers name source) diagnostic []
      → HoldsOfCase case.database_kind case Holds
  over_mapped kind set_numbers set holds =
      subst (λ k. HoldsOfCase k case Holds) (sym kind)
      (subst (λ ns. HoldsOfOnlyFile (mapped_database ns) case Holds) set
      (over_one_file (mapped_database set_numbers) holds))

-- what follows from a fact of what a call returns
pub ok_follows : {T E : Type 0} {P Q : T → Type 0} (r : Result T E) → ((x : T) → P x → Q x)
    → IfOk r P → IfOk r Q
ok_follows (Ok x) follows holds = follows x holds
ok_follows (Err error) follows holds = tt

-- what follows from a fact that holds where a call succeeds
pub done_follows : {T E X Y : Type 0} (r : Result T E) → (X → Y) → OnOk r X → OnOk r Y
done_follows (Ok x) follows holds = follows holds
done_follows (Err error) follows holds = tt
