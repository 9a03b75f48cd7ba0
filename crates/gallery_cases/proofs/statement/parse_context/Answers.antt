use Rattle.std.proofs.Common.{ℕ, List, ap, ◌∙◌, refl, subst, inl, inr}
use Rattle.program_io.specs.Fields.{field_of, past_space}
use Rattle.gallery_cases.specs.Numbers.{IsNumber}
use Rattle.gallery_cases.proofs.WrongLines.{number_missing, no_number, lacks_second, lacks_third}
use Rattle.gallery_cases.specs.declared.words.Word.TheVariants as words
use Rattle.gallery_cases.proofs.statement.parse_context.Goals as goal

-- the four numbers follow one another
pub returns-clause-parsed : goal.returns-clause-parsed
returns-clause-parsed c =
    let one = c.in_ok-start.ensures.left in
    let two = c.in_ok-end.ensures.left ∙ ap past_space one in
    let three = c.in_ok-before.ensures.left ∙ ap past_space two in (
      refl,
      record {
        start = c.in_ok-start.ensures.number;
        end =
            subst (λ (text : List ℕ). IsNumber (field_of text) c.in_ok-end.end) one
            c.in_ok-end.ensures.number;
        before =
            subst (λ (text : List ℕ). IsNumber (field_of text) c.in_ok-before.before) two
            c.in_ok-before.ensures.number;
        after =
            subst (λ (text : List ℕ). IsNumber text c.in_ok-parse_number.field-0) three
            c.in_ok-parse_number.ensures.value;
      },
    )

-- one of them is missing
pub returns-in_err-start-clause-wrong : goal.returns-in_err-start-clause-wrong
returns-in_err-start-clause-wrong c =
    let error = c.in_err-start.ensures.failed in
    number_missing words.Context c.args.rest.now _ _ c.from_residual.ensures.1 error.0
    (inl (inl error.1))

pub returns-in_err-end-clause-wrong : goal.returns-in_err-end-clause-wrong
returns-in_err-end-clause-wrong c =
    let error = c.in_err-end.ensures.failed in
    number_missing words.Context c.args.rest.now _ _ c.from_residual-in_err-end.ensures.1 error.0
    (inl
    (lacks_second c.args.rest.now c.in_ok-start.left.now c.in_ok-start.ensures.left error.1))

pub returns-in_err-before-clause-wrong : goal.returns-in_err-before-clause-wrong
returns-in_err-before-clause-wrong c =
    let error = c.in_err-before.ensures.failed in
    let two = c.in_ok-end.ensures.left ∙ ap past_space c.in_ok-start.ensures.left in
    number_missing words.Context c.args.rest.now _ _ c.from_residual-in_err-before.ensures.1 error.0
    (inl (lacks_third c.args.rest.now c.in_ok-end.left.now two error.1))

pub returns-in_err-parse_number-clause-wrong : goal.returns-in_err-parse_number-clause-wrong
returns-in_err-parse_number-clause-wrong c =
    let error = c.in_err-parse_number.ensures in
    let two = c.in_ok-end.ensures.left ∙ ap past_space c.in_ok-start.ensures.left in
    let three = c.in_ok-before.ensures.left ∙ ap past_space two in
    number_missing words.Context c.args.rest.now _ _ c.from_residual-in_err-parse_number.ensures.1
    error.failed (inr (no_number _ _ _ three error.failed error.value))
