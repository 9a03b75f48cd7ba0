use Rattle.std.proofs.Common.{sym, ◌∙◌, string_bytes}
use Rattle.std.proofs.lemmas.Iterator.{YieldsList-from_chars}
use Rattle.std.proofs.lemmas.Iterator.Consumers.{YieldsList-end}
use Rattle.std.specs.Str.{chars}
use Rattle.codespan_styled.proofs.SafeTexts.{all_safe, left_out, pushed_shown}
use Rattle.codespan_styled.proofs.safe.push_safe.Goals as goal

-- what is shown for the character is appended
pub loop-c-preserved-in-Continue-1 : goal.loop-c-preserved-in-Continue-1
loop-c-preserved-in-Continue-1 c =
    pushed_shown (string_bytes c.args.safe.now) (string_bytes c.loop-c.safe)
    (string_bytes c.push.new.self) c.loop-c.yielded c.in-Some.c c.in-Some-shown_character.shown
    c.loop-c.invariant (sym c.shown_character.ensures ∙ c.in-Some-shown_character.is)
    c.in_ok-push.ensures.bytes

-- the character is left out
pub loop-c-preserved : goal.loop-c-preserved
loop-c-preserved c =
    left_out (string_bytes c.args.safe.now) (string_bytes c.loop-c.safe) c.loop-c.yielded
    c.in-Some.c c.loop-c.invariant (sym c.shown_character.ensures ∙ c.in_default.is)

pub returns : goal.returns
returns c =
    let read =
    YieldsList-end (YieldsList-from_chars c.args.text.now c.utf8.text cc) c.loop-c.yielded _
    c.loop-c.yielded_by _ _ c.in-None.is c.next.ensures.steps in
    all_safe (string_bytes c.args.safe.now) (string_bytes c.loop-c.safe) c.loop-c.yielded
    (chars c.args.text.now) c.loop-c.invariant read.0
