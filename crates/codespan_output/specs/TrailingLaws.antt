-- The law of trailing and hanging labels: which messages a line shows.
use Rattle.std.specs.Prelude.{◌≡◌, List, ◌∷◌, ◌++◌, filter, Option, Some, None}
use Rattle.codespan_core.specs.Labels.{LabelModel, has_message}
use Rattle.codespan_output.specs.Rows.{trailing_label, hanging_labels}

-- the list with a label before it, if there is one
abbrev pub with_first : Option LabelModel → List LabelModel → List LabelModel
with_first None xs = xs
with_first (Some x) xs = x ∷ xs

-- the labels with a message are, in order, the hanging ones and, at one position among them, the
-- trailing one, if there is one
pub record TrailsOrHangs (labels : List LabelModel) : Type 0 where
  pub before : List LabelModel
  pub after : List LabelModel
  pub hang : hanging_labels labels ≡ before ++ after
  pub with_message : filter has_message labels
      ≡ before ++ with_first (trailing_label labels) after

-- so each label with a message trails or hangs, and none does both
abbrev pub EachMessageTrailsOrHangs : Type 0
EachMessageTrailsOrHangs = (labels : List LabelModel) → TrailsOrHangs labels
