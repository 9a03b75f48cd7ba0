-- Files and settings as they are kept for an output, by the values of their fields.
use Rattle.std.specs.Prelude.{List, map}
use Rattle.codespan_output.specs.Arguments.{locus_view}
use Rattle.codespan_edits.specs.Numbers.{NumberedRow}
use Rattle.codespan_edits.specs.RowViews.{numbered_view}
use Rattle.codespan_edits.specs.declared.hunks.Hunk.{Hunk}
use Rattle.codespan_suggestions.specs.DrawnFiles.{DrawnFile}
use Rattle.codespan_suggestions.specs.SuggestionRows as rows
use Rattle.codespan_suggestions.specs.declared.drawn_files.KeptFile.{KeptFile}
use Rattle.codespan_suggestions.specs.declared.row.RowSettings.{RowSettings}

-- the rows of a hunk
abbrev pub hunk_view : Hunk → List NumberedRow
hunk_view hunk = numbered_view hunk.rows

-- a file
abbrev pub file_view : KeptFile → DrawnFile
file_view file = record {
  locus = locus_view file.locus;
  usual_end = file.usual_end.items;
  hunks = map hunk_view file.hunks.items;
}

-- settings
abbrev pub settings_view : RowSettings → rows.RowSettings
settings_view settings = record {
  chars = settings.chars.now;
  tab_width = settings.tab_width;
  padding = settings.padding;
  message = settings.message.now;
}
