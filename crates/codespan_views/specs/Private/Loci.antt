-- The loci of snippets: the byte of each file's locus, by the least starts of its labels, and what
-- is looked up for them.
use Rattle.std.specs.Prelude.{List, [], ◌∷◌, flat_map, filter, fold, if◌then◌else◌}
use Rattle.std.specs.Prelude.{Option, Some, None, unwrap_or, ℕ, Bool, true, false, not, ◌&&◌}
use Rattle.std.specs.Prelude.{◌||◌, min, map}
use Rattle.std.specs.Str.{IsUtf8}
use Rattle.codespan_core.specs.FileModel.Lookup.{LocationAt, Name}
use Rattle.codespan_core.specs.FileModel.{FileModel, Lookup}
use Rattle.codespan_core.specs.Labels.{LabelModel, is_primary}
use Rattle.codespan_output.specs.Arguments.{locus_view}
use Rattle.codespan_output.specs.Lookups.{lookups_of_file}
use Rattle.codespan_output.specs.OutputStreams.{IsLocus}
use Rattle.codespan_output.specs.Rows.{Locus}
use Rattle.codespan_output.specs.Snippets.{LabelInFile, LabeledFileModel}
use Rattle.codespan_views.specs.Private.Types.{LeastStarts, RustFile}
use Rattle.codespan_output.specs.Private.LocusBytes.{snippet_locus_byte, label_locus_byte}

-- the least of some numbers, if there is one
abbrev pub least_if_any : List ℕ → Option ℕ
least_if_any [] = None
least_if_any (n ∷ ns) = Some (fold min n ns)

-- the starts of the labels of a file, or of its primary ones alone
abbrev pub label_starts : {Id : Type 0}
    → (Id → Id → Bool) → Id → Bool → List (LabelInFile Id) → List ℕ
label_starts {Id} same id only_primary xs =
    map (λ (x : LabelInFile Id). x.label.start)
    (filter (λ x. same id x.file_id && (not only_primary || is_primary x.label)) xs)

-- the least starts of a file's labels, of these
abbrev pub file_least_starts : {Id : Type 0} → (Id → Id → Bool) → List (LabelInFile Id)
    → Id
    → LeastStarts
file_least_starts same xs id = record {
  primary = least_if_any (label_starts same id true xs);
  any = least_if_any (label_starts same id false xs);
}

-- the lesser of a number and an optional one
abbrev pub least_with : Option ℕ → ℕ → ℕ
least_with None n = n
least_with (Some m) n = min m n

-- those of a file without labels
abbrev pub no_starts : LeastStarts
no_starts = record { primary = None; any = None }

-- those with one label more
abbrev pub least_starts_with : LeastStarts → LabelModel → LeastStarts
least_starts_with s x = record {
  primary = if is_primary x then Some (least_with s.primary x.start) else s.primary;
  any = Some (least_with s.any x.start);
}

-- the byte of a file's locus: the least start of a primary label, or of any where none is primary;
-- 0 without labels
abbrev pub locus_byte : LeastStarts → ℕ
locus_byte s = unwrap_or s.primary (unwrap_or s.any 0)

-- the locus of a byte index of a file, whose name is UTF-8
pub record IsUtf8Locus (at : FileModel × ℕ) (locus : Locus) : Type 0 where
  pub is_locus : IsLocus at locus
  pub is_utf8 : IsUtf8 locus.name

-- that of a file's snippet
abbrev pub IsLocusOfFile : LabeledFileModel → Locus → Type 0
IsLocusOfFile s locus = IsUtf8Locus (snippet_locus_byte s) locus

-- that of a label's header
abbrev pub IsLocusOfLabel : {Id : Type 0} → (Id → FileModel) → LabelInFile Id → Locus
    → Type 0
IsLocusOfLabel file x locus = IsUtf8Locus (label_locus_byte file x) locus

-- the lookups of the locus of a file's snippet
abbrev pub locus_lookups_of : {Id : Type 0} → RustFile Id → List (Id × Lookup)
locus_lookups_of f = lookups_of_file f.file_id
    (Name ∷ LocationAt (locus_byte f.least_starts) ∷ [])

-- those of all files
abbrev pub locus_lookups_of_files : {Id : Type 0} → List (RustFile Id) → List (Id × Lookup)
locus_lookups_of_files files = flat_map locus_lookups_of files

-- the file has the locus that its snippet starts at
abbrev pub HasLocus : {Id : Type 0} → (Id → FileModel) → RustFile Id → Type 0
HasLocus file f = IsUtf8Locus (file f.file_id, locus_byte f.least_starts) (locus_view f.locus)
