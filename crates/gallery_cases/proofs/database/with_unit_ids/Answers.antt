use Rattle.std.proofs.Common.{◌≡◌, ◌∷◌, ◌++◌, [], ◌∙◌, List, ℕ, ap, map}
use Rattle.std.proofs.Common.{map-id, sym}
use Rattle.std.proofs.lemmas.List.{map_push}
use Rattle.std.proofs.lemmas.Iterator.Adapters.{YieldsList-from_vec}
use Rattle.std.proofs.lemmas.Iterator.Consumers.{YieldsList-end}
use Rattle.codespan_base.specs.declared.diagnostic.Label.{Label}
use Rattle.codespan_base.specs.Diagnostics.{diagnostic_view, label_view}
use Rattle.gallery_cases.specs.Database.{label_with_unit_id, with_unit_ids}
use Rattle.gallery_cases.proofs.database.with_unit_ids.Goals as goal

-- one more label
pub loop-label-preserved : goal.loop-label-preserved
loop-label-preserved c =
    let yielded = c.loop-label.yielded in
    let label = c.in-Some.label in
    let added = c.in_ok-with_unit_id.field-0 in
    record {
      code = c.loop-label.invariant.code;
      labels =
          ap (map label_view) c.in_ok-push.ensures.items
          ∙ map_push label_view c.loop-label.labels.items added
          ∙ ap (λ views. views ++ label_view added ∷ []) c.loop-label.invariant.labels
          ∙ ap (λ view. map label_with_unit_id (map label_view yielded) ++ view ∷ [])
          c.in_ok-with_unit_id.ensures
          ∙ sym
          (ap (map label_with_unit_id) (map_push label_view yielded label)
          ∙ map_push label_with_unit_id (map label_view yielded) (label_view label));
    }

-- all labels
pub returns : goal.returns
returns c =
    let cloned = c.in_ok-severity.field-0 in
    let given = c.into_iter-label-iterator.ensures.into_iter_gives in
    let all = YieldsList-end
    (YieldsList-from_vec cloned.labels.items given.0 (given.1 ∙ cloned.labels.ok.0))
    c.loop-label.yielded _ c.loop-label.yielded_by _ c.next.new.self c.in-None.is
    c.next.ensures.steps in
    let same : c.loop-label.yielded ≡ cloned.labels.items =
    sym (map-id c.loop-label.yielded) ∙ all.0 in
    rw c.loop-label.invariant.code
    (ap (λ labels. record (with_unit_ids (diagnostic_view cloned)) { labels = labels })
    (c.loop-label.invariant.labels
    ∙ ap (λ (ls : List (Label ℕ)). map label_with_unit_id (map label_view ls)) same)
    ∙ ap with_unit_ids c.in_ok-severity.ensures.same)
