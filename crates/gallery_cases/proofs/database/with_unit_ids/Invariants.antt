use Rattle.std.proofs.Common.{◌≡◌, map}
use Rattle.codespan_base.specs.Diagnostics.{label_view}
use Rattle.gallery_cases.specs.Database.{label_with_unit_id}
use Rattle.gallery_cases.proofs.database.with_unit_ids.Given as goal

abbrev pub invariant-loop-label : goal.invariant-loop-label
invariant-loop-label l = record {
  code : l.code ≡ l.initial.code;
  labels : map label_view l.labels.items ≡ map label_with_unit_id (map label_view l.yielded);
}
