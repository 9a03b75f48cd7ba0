-- The line starts that the iterator over them has not returned yet.
use Rattle.std.specs.Prelude.{ℕ, List, ◌∷◌, drop, if◌then◌else◌}
use Rattle.codespan_core.specs.Lines.{starts_after}
use Rattle.codespan_core.specs.declared.files.starts.LineStarts.{LineStarts}

-- the line starts that it has not returned yet, but for the first
abbrev pub starts_left : LineStarts → List ℕ
starts_left s = starts_after s.at (drop s.at s.source.now)

-- the line starts that it has not returned yet
abbrev pub remaining_starts : LineStarts → List ℕ
remaining_starts s = if s.started then starts_left s else 0 ∷ starts_left s
