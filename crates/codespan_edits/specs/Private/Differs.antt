-- The rows of blocks so far, and of the pieces that are to come.
use Rattle.std.specs.Prelude.{List, ◌++◌, string_bytes}
use Rattle.std.specs.List.{flat_map}
use Rattle.codespan_edits.specs.Diffs.{Change, Row, blocks_from, block_rows}
use Rattle.codespan_edits.specs.RowViews.{rows_view}
use Rattle.codespan_edits.specs.declared.rows.Differ.{Differ}

-- the rows so far, and those of the blocks that what is held and more pieces make
abbrev pub all_rows : Differ → List Change → List Row
all_rows differ ps =
    rows_view differ.rows ++ flat_map block_rows (blocks_from
    (record { old = string_bytes differ.before; new = string_bytes differ.after }) ps)
