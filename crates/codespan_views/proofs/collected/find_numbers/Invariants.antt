use Rattle.codespan_core.proofs.Std.{◌≡◌, ◌≤◌, length, map, drop}
use Rattle.codespan_views.specs.Private.{annotation_view, ids_view}
use Rattle.codespan_views.proofs.Files.Slices.{from_file}
use Rattle.codespan_views.proofs.Lines.NumbersFound.{FilesLeft}
use Rattle.codespan_views.proofs.collected.find_numbers.Given as goal

-- the annotations from here on are those of this file and later ones, and their numbers are left;
-- `l.collected.1` are the fields of what was collected, in their order
abbrev pub invariant-loop-index : goal.invariant-loop-index
invariant-loop-index g l = record {
  inside : l.start ≤ length l.fn.collected.annotations.items;
  left : drop l.start (map annotation_view l.fn.collected.annotations.items) ≡ from_file l.index
      (map annotation_view l.fn.collected.annotations.items);
  files_left : FilesLeft (g.F.Files.database l.files).file (g.F.Files.database l.files).failure
      (map annotation_view l.fn.collected.annotations.items)
      (ids_view l.fn.collected.files.items) l.index l.fn.numbers.items l.numbers.items
      l.collected.1.1.1.0.digit_count;
  files : l.collected.1.0 ≡ l.fn.collected.files;
  annotations : l.collected.1.1.0 ≡ l.fn.collected.annotations;
}
