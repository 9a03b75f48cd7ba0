-- The file database of a case.
use Rattle.std.specs.Prelude.{◌≡◌, ℕ, List, [], ◌∷◌, map}
use Rattle.std.specs.Borrow.{Bor}
use Rattle.codespan_base.specs.declared.diagnostic.Diagnostic.{Diagnostic}
use Rattle.codespan_base.specs.Diagnostics.{DiagnosticView, LabelView, diagnostic_view}
use Rattle.codespan_base.specs.MappedModel.{with_set_number}
use Rattle.codespan_base.specs.SimpleFileViews.{name_of, source_of}
use Rattle.codespan_base.specs.MappedFileViews.{mapped_name_of, mapped_source_of, set_numbers_of}
use Rattle.codespan_base.specs.SimpleFilesViews.{entries}
use Rattle.gallery_cases.specs.declared.case.Case.{Case}
use Rattle.gallery_cases.specs.declared.case.DatabaseKind.TheVariants as kinds
use Rattle.gallery_cases.specs.declared.case.SetNumber.{SetNumber}
use Rattle.gallery_cases.specs.declared.database.Database.{Database}
use Rattle.gallery_cases.specs.declared.database.Database.TheVariants.{One, Several, Mapped}
use Rattle.gallery_cases.specs.Cases.{file_view}

-- a label with the file id `()`, which is that of a database of one file
abbrev pub label_with_unit_id : LabelView ℕ → LabelView (Unit {0})
label_with_unit_id label =
    record { style = label.style; file_id = tt; range = label.range; message = label.message }

-- a diagnostic whose labels have the file id `()`
abbrev pub with_unit_ids : DiagnosticView ℕ → DiagnosticView (Unit {0})
with_unit_ids diagnostic =
    record {
      severity = diagnostic.severity;
      code = diagnostic.code;
      message = diagnostic.message;
      labels = map label_with_unit_id diagnostic.labels;
      notes = diagnostic.notes;
    }

-- the set numbers of a list, and then these, set one after another
abbrev pub with_set_numbers : List (ℕ × ℕ) → List SetNumber → List (ℕ × ℕ)
with_set_numbers set_numbers [] = set_numbers
with_set_numbers set_numbers (set_number ∷ more) =
    with_set_numbers (with_set_number set_number.line set_number.number set_numbers) more

-- a borrowed name and source
abbrev pub BorrowedFile : Type 0
BorrowedFile = Bor (List ℕ) × Bor (List ℕ)

-- their texts
abbrev pub borrowed_view : BorrowedFile → List ℕ × List ℕ
borrowed_view file = (file.0.now, file.1.now)

-- the only file of a case has this name and this source, and the diagnostic is that of the case,
-- with the file id `()`; the case has no suggestions
pub record IsOnlyFile (case : Case) (name source : List ℕ)
    (diagnostic : Diagnostic (Unit {0})) : Type 0 where
  pub only : map file_view case.files.items ≡ (name, source) ∷ []
  pub same : diagnostic_view diagnostic ≡ with_unit_ids (diagnostic_view case.diagnostic)
  pub no_suggestions : case.suggestions.items ≡ []

-- the file database is that of the case
abbrev pub IsDatabaseOf : Case → Database → Type 0
IsDatabaseOf case (One file diagnostic) =
    (case.database_kind ≡ kinds.One)
    × IsOnlyFile case (name_of file).now (source_of file).now diagnostic
IsDatabaseOf case (Several files) =
    (case.database_kind ≡ kinds.Several)
    × (map borrowed_view (entries files) ≡ map file_view case.files.items)
IsDatabaseOf case (Mapped file diagnostic) =
    (case.database_kind ≡ kinds.Mapped) × IsOnlyFile case (mapped_name_of file).now
    (mapped_source_of file).now diagnostic
    × (set_numbers_of file ≡ with_set_numbers [] case.set_numbers.items)
