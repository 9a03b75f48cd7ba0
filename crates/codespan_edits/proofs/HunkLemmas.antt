-- How many of the first rows are changed, for the laws of hunks.
use Rattle.codespan_core.proofs.Std.{◌≡◌, ◌<◌, ◌+◌}
use Rattle.codespan_core.proofs.Std.{ℕ, List, length, get_or}
use Rattle.codespan_core.proofs.Std.{cond}
use Rattle.std.proofs.lemmas.List.Filters.{length-filter_more}
use Rattle.codespan_edits.specs.DiffLaws.{is_changed}
use Rattle.codespan_edits.specs.Numbers.{NumberedRow}
use Rattle.codespan_edits.specs.DrawnRows.{changed_among}

-- one more row is counted
pub changed_more : (rows : List NumberedRow) (k : ℕ) (d : NumberedRow) → k < length rows
    → changed_among (k + 1) rows
    ≡ changed_among k rows + cond (is_changed (get_or rows k d).row.sign) 1 0
changed_more rows k d inside =
    length-filter_more (λ (r : NumberedRow). is_changed r.row.sign) rows k d inside
