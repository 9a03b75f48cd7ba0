use Rattle.std.proofs.Common.{◌≡◌, [], drop}
use Rattle.codespan_base.specs.MappedFileViews.{mapped_name_of, mapped_source_of, set_numbers_of}
use Rattle.gallery_cases.specs.Cases.{file_view}
use Rattle.gallery_cases.specs.Database.{with_set_numbers}
use Rattle.gallery_cases.proofs.database.mapped_file.Given as goal

abbrev pub invariant-loop-line : goal.invariant-loop-line
invariant-loop-line l = record {
  file : ((mapped_name_of l.mapped).now, (mapped_source_of l.mapped).now) ≡ file_view l.file;
  set_numbers : with_set_numbers (set_numbers_of l.mapped) (drop l.line-index l.set_numbers)
      ≡ with_set_numbers [] l.set_numbers;
}
