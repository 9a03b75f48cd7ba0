use Rattle.codespan_core.proofs.Std.{◌≡◌, ℕ, false, List, [], ◌++◌, Option, Some, None}
use Rattle.codespan_core.proofs.Std.{Result, Ok, Err, IfSome, OnOk, subst, sym, ap, ◌∙◌}
use Rattle.codespan_core.proofs.Std.{IsUtf8, IsUtf8-had}
use Rattle.std.proofs.Common.{IsOk}
use Rattle.std.specs.Result.{is_err}
use Rattle.program_io.proofs.input.read_text.Goals as goal

-- if the bytes that were read to the end are not UTF-8, the input was not
no_text : {E : Type 0} (left : Option (List ℕ)) (read : Result ℕ E) (old new : List ℕ)
    → is_err read ≡ false
    → OnOk read (IfSome left (λ bytes. new ≡ old ++ bytes)) → old ≡ [] → ¬ (IsUtf8 new)
    → IfSome left (λ bytes. ¬ (IsUtf8 bytes))
no_text left (Err e) old new done all empty not_utf8 = absurd (cc done)
no_text None (Ok n) old new done all empty not_utf8 = tt
no_text (Some bytes) (Ok n) old new done all empty not_utf8 =
    λ text. not_utf8 (subst IsUtf8 (sym (all ∙ ap (λ front. front ++ bytes) empty)) text)

-- a result is not both an error and a success
not_both : {T E : Type 0} (r : Result T E) (e : E) → r ≡ Err e → IsOk r → ⊥
not_both (Ok x) e is ok = cc is
not_both (Err d) e is ok = cc ok

pub returns-clause-not_utf8 : goal.returns-clause-not_utf8
returns-clause-not_utf8 g c =
    λ _. no_text _ c.read_to_end.result c.new-bytes.result.items _
    (sym c.is_err.ensures.value ∙ c.if-is_err.false) c.read_to_end.ensures.bytes
    c.new-bytes.ensures.items
    (λ text. not_both _ _ c.in-Err.is (c.from_utf8.ensures.succeeds text))

pub returns-in-Ok-clause-text : goal.returns-in-Ok-clause-text
returns-in-Ok-clause-text g c = IsUtf8-had _ c.in-Ok.text.ok
