-- Files with byte indices in them, lookups of loci, and the lines that the padding fits, by name.
use Rattle.std.specs.Prelude.{ℕ, List, map, filter, [], ◌∷◌}
use Rattle.codespan_output.specs.Padding.{count_digits}
use Rattle.codespan_output.specs.Snippets.{LabeledFileModel, LabelInFile, locus_byte_of}
use Rattle.codespan_core.specs.FileModel.{FileModel, FileDatabase, Lookup, line_count}
use Rattle.codespan_core.specs.FileModel.Lookup.{Name, LocationAt}
use Rattle.codespan_core.specs.Labels.{first_line, last_line}
use Rattle.codespan_output.specs.Lines.{spans}
use Rattle.codespan_output.specs.Lookups.{file_at}
use Rattle.std.specs.List.{list_any, range_with_len}

-- the file, and the byte index in it whose locus its snippet shows
abbrev pub snippet_locus_byte : LabeledFileModel → FileModel × ℕ
snippet_locus_byte s = (s.file, locus_byte_of s.labels)

-- the file of a label, and the byte index in it at which the label starts
abbrev pub label_locus_byte : {Id : Type 0} → (Id → FileModel) → LabelInFile Id
    → FileModel × ℕ
label_locus_byte file x = (file x.file_id, x.label.start)

-- the digit counts of these lines' numbers
abbrev pub digits_of : LabeledFileModel → List ℕ → List ℕ
digits_of s ls = map (λ l. count_digits (s.file.line_number l)) ls

-- the lookups of the locus of a file's snippet: the file's name, and the location of a byte
abbrev pub locus_lookups : {Id : Type 0} → FileDatabase Id → List (LabelInFile Id) → Id
    → List Lookup
locus_lookups files xs id = Name ∷ LocationAt (locus_byte_of (file_at files xs id).labels) ∷ []

-- the lines that labels of the file span
abbrev pub spanned_lines : LabeledFileModel → List ℕ
spanned_lines s =
    filter (λ l. list_any (λ x. spans (first_line s.file x) (last_line s.file x) l) s.labels)
    (range_with_len 0 (line_count s.file))
