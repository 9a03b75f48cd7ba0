use Rattle.codespan_core.proofs.Std.{◌≡◌, ◌+◌, Some, None, [], refl, sym, ◌∙◌}
use Rattle.codespan_core.proofs.Std.{append-nil, drop, take, take-append-drop}
use Rattle.codespan_output.specs.{single_label_views, trailing_label}
use Rattle.codespan_output.specs.Private.{AreHanging}
use Rattle.codespan_output.proofs.Messages.Hanging.{trailing_here, hanging_here, nothing_trails}
use Rattle.codespan_output.proofs.Messages.Hanging.{none_trails}
use Rattle.codespan_output.proofs.Messages.Pieces.{taken-dropped}
use Rattle.codespan_output.proofs.rows.messages.Messages.of.Goals.{in-Some, in_default}
use Rattle.codespan_output.proofs.rows.messages.Messages.of.Goals.{in_default-via-in-Some+else-does_trail}
use Rattle.codespan_output.proofs.rows.messages.Messages.of.Goals.{in_default-via-in_default}
use Rattle.codespan_output.proofs.rows.messages.Messages.of.Goals as goal

pub invariant_of-result : goal.invariant_of-result
invariant_of-result c =
    let labels = c.args.labels.now in
    elim c.match-last_with_end.branch [
      | in-Some w ↦
          let index = w.in-Some.index in
          let holds = sym w.does_trail.ensures ∙ w.if-does_trail.true in
          rw w.result-is record {
            trails = trailing_here labels index _ _ w.in-Some.ensures.within
                c.max_label_end.ensures w.in-Some.ensures.value holds;
            hanging_labels = hanging_here labels index _ w.in-Some.ensures.within
                c.max_label_end.ensures w.in-Some.ensures.value holds;
            slices = ∣ record {
              rest = drop index labels;
              begins = take-append-drop index labels;
              skipped = take (index + 1) labels;
              ends = taken-dropped (index + 1) labels;
            } ∣₁;
          }
      | in_default w ↦
          let none : (None ≡ trailing_label (single_label_views labels))
          × AreHanging labels labels [] =
          elim w.in_default.branch [
            | in_default-via-in-Some+else-does_trail w' ↦
                let fails = sym w'.does_trail.ensures ∙ w'.if-does_trail.false in
                let last = w'.in-Some.ensures.value in (
                  nothing_trails labels (Some w'.in-Some.index) _ c.max_label_end.ensures
                      last fails,
                  none_trails labels (Some w'.in-Some.index) _ c.max_label_end.ensures last fails,
                )
            | in_default-via-in_default w' ↦
                let last = w'.in_default.ensures.value in (
                  nothing_trails labels None _ c.max_label_end.ensures last refl,
                  none_trails labels None _ c.max_label_end.ensures last refl,
                )
          ] in
          rw w.result-is record {
            trails = none.0;
            hanging_labels = none.1;
            slices = ∣ record {
              rest = [];
              begins = append-nil labels;
              skipped = labels;
              ends = append-nil labels;
            } ∣₁;
          }
    ]
