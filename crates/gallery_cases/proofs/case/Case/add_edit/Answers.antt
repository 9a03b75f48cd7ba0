use Rattle.std.proofs.Common.{ℕ, ◌∷◌, [], ◌∙◌, ap, map, refl, string_bytes}
use Rattle.std.proofs.lemmas.List.{map-append}
use Rattle.codespan_suggestions.specs.Views.{SuggestionView, edit_view}
use Rattle.gallery_cases.proofs.LastCase.{last_edited}
use Rattle.gallery_cases.proofs.case.Case.add_edit.Goals as goal

pub returns-clause-suggestions : goal.returns-clause-suggestions
returns-clause-suggestions c =
    let old = c.in-Some.suggestion.now in
    let edit = c.args.edit in
    last_edited c.args.self.now.suggestions.items _ edit old
    (record old { edits = c.push.new.self })
    c.args.self.now.suggestions.ok.0 (c.in-Some.ensures.variant.0 refl) c.in-Some.ensures.value
    (ap
    (λ edits. let view : SuggestionView ℕ = record {
      message = string_bytes old.message;
      applicability = old.applicability;
      edits = edits;
    } in view)
    (ap (map edit_view) c.in_ok-push.ensures.items
    ∙ map-append edit_view old.edits.items (edit ∷ [])))
