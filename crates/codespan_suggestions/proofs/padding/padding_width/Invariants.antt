use Rattle.codespan_core.proofs.Std.{◌≡◌, take, map}
use Rattle.codespan_suggestions.specs.SuggestionRows.{padding_of}
use Rattle.codespan_suggestions.specs.Private.FileViews.{file_view}
use Rattle.codespan_suggestions.proofs.padding.padding_width.Given as goal

-- the padding of the files so far
abbrev pub invariant-loop-file : goal.invariant-loop-file
invariant-loop-file l =
    l.width.digit_count ≡ padding_of (map file_view (take l.file-index l.files))
