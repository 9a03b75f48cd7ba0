use Rattle.codespan_core.proofs.Std.{◌≡◌, ◌-◌, ◌<◌, ◌≤◌, ◌∙◌, length}
use Rattle.codespan_core.proofs.Std.{get_or, subst, ℕ, List}
use Rattle.codespan_core.specs.Lines.{line_starts_of}
use Rattle.codespan_core.specs.Lemmas.Simple.{line_found_at_start, line_found_inside}
use Rattle.codespan_suggestions.proofs.LineStarts.{found-start, found-inside}
use Rattle.codespan_suggestions.proofs.line_columns.TextLines.line_index.Goals as goal

-- the first line starts at the first byte
pub overflow_sub-result : goal.overflow_sub-result
overflow_sub-result c =
    (line_found_inside c.args.self.now.text.now _ _ _
    (c.deref.ensures.value ∙ c.args.self.now.of_text) c.in-Err.ensures.position).0

-- a line starts at the byte
pub returns-in-Ok : goal.returns-in-Ok
returns-in-Ok c =
    let is : c.deref.result.now ≡ line_starts_of c.args.self.now.text.now =
    c.deref.ensures.value ∙ c.args.self.now.of_text in
    let f = subst (λ (xs : List ℕ). (c.in-Ok.index < length xs)
    × (get_or xs c.in-Ok.index 0 ≤ c.args.byte)) c.deref.ensures.value
    (found-start c.args.self.now.text.now _ _ _ is c.in-Ok.ensures.ok) in
    record {
      value = line_found_at_start c.args.self.now.text.now _ _ _ is c.in-Ok.ensures.ok;
      inside = f.0;
      start = f.1;
    }

-- or the next one starts after it
pub returns-in-Err : goal.returns-in-Err
returns-in-Err c =
    let is : c.deref.result.now ≡ line_starts_of c.args.self.now.text.now =
    c.deref.ensures.value ∙ c.args.self.now.of_text in
    let here = line_found_inside c.args.self.now.text.now _ _ _ is c.in-Err.ensures.position in
    let f = subst (λ (xs : List ℕ). (c.in-Err.next - 1 < length xs)
    × (get_or xs (c.in-Err.next - 1) 0 ≤ c.args.byte)) c.deref.ensures.value
    (found-inside c.args.self.now.text.now _ _ _ is here.0 c.in-Err.ensures.position) in
    record { value = here.1; inside = f.0; start = f.1 }
