use Rattle.codespan_core.proofs.Std.{◌≤◌, List, length, map, All}
use Rattle.codespan_views.specs.Private.{RustAnnotation, IsLineOf, annotation_view, lines_of}
use Rattle.codespan_views.specs.Private.{model_of}
use Rattle.codespan_views.proofs.Lines.NumbersFound.{NumbersLeft}
use Rattle.codespan_views.proofs.Lines.SnippetLineViews.{lines_left}
use Rattle.codespan_views.proofs.collected.find_numbers_of_file.Given as goal

-- the numbers of some snippet lines were found, and the remaining annotations make the rest
abbrev pub invariant-loop-first : goal.invariant-loop-first
invariant-loop-first g l = record {
  hidden : List (RustAnnotation g.row.F-FileId.Denot);
  within : length l.rest ≤ length l.annotations;
  lines : All (λ e. IsLineOf (model_of g.F.Files.database l.file) e.line) l.rest;
  left : NumbersLeft (g.F.Files.database l.file.files.now).failure l.file.file_id
      (model_of g.F.Files.database l.file) (lines_of (map annotation_view l.annotations))
      (lines_left hidden l.rest l.previous) l.fn.numbers.items l.numbers.items
      l.fn.padding.digit_count l.padding.digit_count;
}

abbrev pub decreases-loop-first : goal.decreases-loop-first
decreases-loop-first g l = length l.rest
