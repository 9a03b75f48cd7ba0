-- For the clauses of `statement::parse_context`: a line that lacks a number.
use Rattle.std.proofs.Common.{◌≡◌, ℕ, List, Some, Result, Ok, Err, IfErr, sym, subst, inl}
use Rattle.std.proofs.Common.{inr}
use Rattle.std.specs.Result.{IsErrAnd}
use Rattle.std.specs.Str.Parse.{ParsesUnsigned}
use Rattle.gallery_cases.specs.declared.errors.LineError.{LineError}
use Rattle.gallery_cases.specs.declared.errors.LineError.TheVariants.{BadNumber}
use Rattle.gallery_cases.specs.declared.statement.Statement.{Statement}
use Rattle.gallery_cases.specs.declared.words.Word.{Word}
use Rattle.program_io.specs.Fields.{field_of, past_space}
use Rattle.gallery_cases.specs.Numbers.{IsBadNumber}
use Rattle.gallery_cases.specs.Statements.{IsWrong, HasBadNumber, HasBadNumberOfThree}
use Rattle.gallery_cases.specs.Statements.{past_two_spaces}

-- a number that has to follow the word is missing
pub number_missing : (word : Word) (rest : List ℕ) (r : Result Statement LineError)
    (line_error : LineError)
    → IsErrAnd r (λ y. y ≡ line_error) → line_error ≡ BadNumber → HasBadNumber rest word
    → IfErr r (IsWrong (Some word) rest)
number_missing word rest (Ok statement) line_error same is lacks = tt
number_missing word rest (Err y) line_error same is lacks =
    subst (IsWrong (Some word) rest) (sym same) (subst (IsWrong (Some word) rest) (sym is) lacks)

-- a text is not a number
pub no_number : (text rest : List ℕ) (line_error : LineError) → text ≡ rest
    → line_error ≡ BadNumber
    → ParsesUnsigned {E = LineError} 64 10 text (Err line_error) → IsBadNumber rest
no_number text rest line_error same is unparsed =
    subst (λ (t : List ℕ). IsBadNumber t) same
    (subst (λ e. ParsesUnsigned {E = LineError} 64 10 text (Err e)) is unparsed)

-- the second field is not a number, or the third is not
pub lacks_second : (rest left : List ℕ) → left ≡ past_space rest
    → IsBadNumber (field_of left)
    → HasBadNumberOfThree rest
lacks_second rest left is none =
    inr (inl (subst (λ (text : List ℕ). IsBadNumber (field_of text)) is none))

pub lacks_third : (rest left : List ℕ) → left ≡ past_two_spaces rest
    → IsBadNumber (field_of left)
    → HasBadNumberOfThree rest
lacks_third rest left is none =
    inr (inr (subst (λ (text : List ℕ). IsBadNumber (field_of text)) is none))
