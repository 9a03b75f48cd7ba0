use Rattle.std.proofs.Common.{◌≡◌, refl, sym, ◌∙◌}
use Rattle.std.specs.Str.Iter.{chars_rest}
use Rattle.std.proofs.lemmas.Str.{IsUtf8-past_char}
use Rattle.codespan_styled.proofs.HtmlWriting.{text-end, text-more, text-same}
use Rattle.codespan_styled.proofs.html.push_text.Goals as goal

pub loop-c-init : goal.loop-c-init
loop-c-init c =
    let all : chars_rest c.into_iter-c-iterator.result ≡ c.args.text.now = cc in
    rw all record { utf8 = c.utf8.text; left = refl }

-- what is shown for the character is appended
pub loop-c-preserved-in-Continue-1 : goal.loop-c-preserved-in-Continue-1
loop-c-preserved-in-Continue-1 c =
    let i = c.loop-c.invariant in
    let step = c.in-Some.ensures.steps.0 in
    record {
      utf8 = IsUtf8-past_char _ _ _ i.utf8 step;
      left =
          text-more _ _ _ _ _ i.utf8 step i.left _ _
          (sym c.shown_character.ensures ∙ c.in-Some-shown_character.is)
          c.in_ok-push_cell.ensures;
    }

-- the character is left out
pub loop-c-preserved : goal.loop-c-preserved
loop-c-preserved c =
    let i = c.loop-c.invariant in
    let step = c.in-Some.ensures.steps.0 in
    record {
      utf8 = IsUtf8-past_char _ _ _ i.utf8 step;
      left =
          text-same _ _ _ _ _ i.utf8 step i.left
          (sym c.shown_character.ensures ∙ c.in_default.is);
    }

pub returns : goal.returns
returns c = text-end _ _ _ c.in-None.ensures.steps.0.0 c.loop-c.invariant.left
