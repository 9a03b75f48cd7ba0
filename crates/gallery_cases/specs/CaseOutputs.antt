-- The output of a case.
use Rattle.std.specs.Prelude.{◌≡◌, ℕ, nat_eq, true, List, [], ◌∷◌, ◌++◌, map}
use Rattle.std.specs.Prelude.{IsSome, Option, Some, flat_map}
use Rattle.codespan_base.specs.declared.term.config.Config.{Config}
use Rattle.codespan_base.specs.Streams.{text_of}
use Rattle.codespan_suggestions.specs.SuggestionOutput.{suggestion_stream}
use Rattle.codespan_suggestions.specs.declared.suggestion.Suggestion.{Suggestion}
use Rattle.codespan_base.specs.declared.diagnostic.Diagnostic.{Diagnostic}
use Rattle.codespan_base.specs.Diagnostics.{diagnostic_view}
use Rattle.codespan_base.specs.declared.files.Error.{Error}
use Rattle.codespan_base.specs.FileModel.{FileDatabase, FileModel, Lookup}
use Rattle.codespan_base.specs.MappedModel.{mapped_file, mapped_failure}
use Rattle.codespan_base.specs.SimpleModel.{simple_file, simple_failure, database_file}
use Rattle.codespan_base.specs.SimpleModel.{database_failure}
use Rattle.codespan_views.specs.Output.{IsRendered}
use Rattle.gallery_cases.specs.declared.case.Case.{Case}
use Rattle.gallery_cases.specs.declared.case.DatabaseKind.{DatabaseKind}
use Rattle.gallery_cases.specs.declared.case.DatabaseKind.TheVariants.{One, Several, Mapped}
use Rattle.gallery_cases.specs.Cases.{file_view}
use Rattle.gallery_cases.specs.Database.{BorrowedFile, borrowed_view, with_set_numbers}
use Rattle.gallery_cases.specs.Database.{with_unit_ids}

-- ---- file databases

-- a file alone, with the errors of its lookups
abbrev pub one_file_database : FileModel → (Lookup → Option Error) → FileDatabase (Unit {0})
one_file_database file failures =
    record { same = λ i j. true; file = λ id. file; failure = λ id. failures }

-- a simple file of this name and this source
abbrev pub simple_database : List ℕ → List ℕ → FileDatabase (Unit {0})
simple_database name source =
    one_file_database (simple_file (Some name) source) (simple_failure source)

-- a `MappedFile` of this name and this source, with these set numbers
abbrev pub mapped_database : List (ℕ × ℕ) → List ℕ → List ℕ → FileDatabase (Unit {0})
mapped_database set_numbers name source =
    one_file_database (mapped_file (Some name) source set_numbers)
    (mapped_failure source set_numbers)

-- several files, whose ids are their indices
abbrev pub several_database : List BorrowedFile → FileDatabase ℕ
several_database files = record {
  same = nat_eq;
  file = database_file (λ name. Some name.now) (λ source. source.now) files;
  failure = database_failure (λ source. source.now) files;
}

-- a property of a diagnostic and suggestions over a file database
abbrev pub Property : Type 1
Property =
    (Id : Type 0) → FileDatabase Id → Diagnostic Id → List (Suggestion Id) → Type 0

-- the property holds of a case's diagnostic, without suggestions, over such a database of its only
-- file
pub record HoldsOfOnlyFile (database : List ℕ → List ℕ → FileDatabase (Unit {0}))
    (case : Case) (Holds : Property) : Type 0 where
  pub name : List ℕ
  pub source : List ℕ
  pub diagnostic : Diagnostic (Unit {0})
  pub only : map file_view case.files.items ≡ (name, source) ∷ []
  pub same : diagnostic_view diagnostic ≡ with_unit_ids (diagnostic_view case.diagnostic)
  pub no_suggestions : case.suggestions.items ≡ []
  pub holds : Holds (Unit {0}) (database name source) diagnostic []

-- the property holds of a case's diagnostic and suggestions over all its files
pub record HoldsOfAllFiles (case : Case) (Holds : Property) : Type 0 where
  pub files : List BorrowedFile
  pub same : map borrowed_view files ≡ map file_view case.files.items
  pub holds : Holds ℕ (several_database files) case.diagnostic case.suggestions.items

-- the property holds of a case's diagnostic and suggestions over its file database
abbrev pub HoldsOfCase : DatabaseKind → Case → Property → Type 0
HoldsOfCase One case Holds = HoldsOfOnlyFile simple_database case Holds
HoldsOfCase Several case Holds = HoldsOfAllFiles case Holds
HoldsOfCase Mapped case Holds =
    HoldsOfOnlyFile (mapped_database (with_set_numbers [] case.set_numbers.items)) case Holds

-- ---- outputs

-- the outputs of suggestions in plain text, one below the other
abbrev pub suggestion_texts : {Id : Type 0} → Config → FileDatabase Id
    → List (Suggestion Id) → List ℕ
suggestion_texts config database suggestions =
    flat_map (λ (s : Suggestion _). text_of (suggestion_stream config database s)) suggestions

-- the text is the output of a diagnostic, and below it those of suggestions, in plain text
pub record AreRendered {Id : Type 0} (config : Config) (database : FileDatabase Id)
    (diagnostic : Diagnostic Id) (suggestions : List (Suggestion Id)) (text : List ℕ)
    : Type 0 where
  pub first : List ℕ
  pub is_rendered : IsRendered config database diagnostic first
  pub is : text ≡ first ++ suggestion_texts config database suggestions

-- they have been appended
abbrev pub AppendsRendered : {Id : Type 0} → Config → FileDatabase Id → Diagnostic Id
    → List (Suggestion Id) → List ℕ → List ℕ → Type 0
AppendsRendered config database diagnostic suggestions old new =
    (text : List ℕ) × (new ≡ old ++ text)
    × AreRendered config database diagnostic suggestions text

-- each file of a database has a name that is stated
abbrev pub AreNamed : {Id : Type 0} → FileDatabase Id → Type 0
AreNamed {Id} database = (id : Id) → IsSome (database.file id).name

-- the text is the output of a case in plain text
abbrev pub IsCaseOutput : Case → List ℕ → Type 0
IsCaseOutput case text =
    HoldsOfCase case.database_kind case (λ Id database diagnostic suggestions.
    AreRendered case.config database diagnostic suggestions text)

-- the output of a case in plain text has been appended
abbrev pub AppendsOutput : Case → List ℕ → List ℕ → Type 0
AppendsOutput case old new = (text : List ℕ) × (new ≡ old ++ text) × IsCaseOutput case text
