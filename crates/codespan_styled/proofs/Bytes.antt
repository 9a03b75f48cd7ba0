-- UTF-8 has bytes alone: for the clause `runs` of `Recorder::into_text`, where no byte of a text
-- may be taken for the number of a style.
use Rattle.std.proofs.Common.{◌≡◌, ℕ, ◌+◌, ◌/◌, ◌%◌, ◌<◌, true, List, []}
use Rattle.std.proofs.Common.{◌∷◌, ◌++◌, ⊎_elim, subst, arith, encode_utf8_all, map}
use Rattle.std.proofs.Common.{string_bytes}
use Rattle.std.specs.Prelude.{nat_lt, ◌&&◌, Bool}
use Rattle.std.specs.Char.{IsScalar, encode_utf8}
use Rattle.std.specs.List.{AllByRecursion}
use Rattle.std.specs.Str.{IsUtf8, all_scalars}
use Rattle.std.proofs.Math.Utf8.{scalar, scalar_cases}
use Rattle.std.proofs.lemmas.Bool.{cond_both}
use Rattle.std.proofs.lemmas.Bool.Decides.{nat_tests}
use Rattle.std.proofs.lemmas.Str.{IsUtf8-string_bytes}
use Rattle.codespan_styled.specs.declared.text.Run.{Run}
use Rattle.codespan_styled.specs.Recorders.{AreBytes}
use Rattle.codespan_styled.specs.Runs.{RunView, run_view}

-- the texts of the runs are bytes
abbrev pub TextsAreBytes : List RunView → Type 0
TextsAreBytes runs = AllByRecursion (λ (run : RunView). AreBytes run.text) runs

-- bytes, one list after another
AreBytes-append : (xs bs : List ℕ) → AreBytes xs → AreBytes bs → AreBytes (xs ++ bs)
AreBytes-append [] bs a b = b
AreBytes-append (x ∷ xs) bs a b = (a.0, AreBytes-append xs bs a.1 b)

-- a Unicode scalar value is less than 0x110000
below_top : (c : ℕ) → IsScalar c → c < 1114112
below_top c s =
    ⊎_elim (λ (h : c < 55296). let e : c < 1114112 = omega arith in e) (λ h. h.1)
    (scalar_cases c s)

-- the bytes of a character
character-bytes : (c : ℕ) → IsScalar c → AreBytes (encode_utf8 c)
unfolding encode_utf8
character-bytes c s =
    let top : c < 1114112 = below_top c s in
    let last : 128 + c % 64 < 256 = omega arith in
    let middle : 128 + c / 64 % 64 < 256 = omega arith in
    let second : 128 + c / 4096 % 64 < 256 = omega arith in
    cond_both (nat_lt c 128) _ _ AreBytes
    (λ t. let low : c < 128 = grind (arith, nat_tests, t) in
    let e : c < 256 = omega arith in (e, tt))
    (λ _. cond_both (nat_lt c 2048) _ _ AreBytes
    (λ t. let low : c < 2048 = grind (arith, nat_tests, t) in
    let e : 192 + c / 64 < 256 = omega arith in (e, (last, tt)))
    (λ _. cond_both (nat_lt c 65536) _ _ AreBytes
    (λ t. let low : c < 65536 = grind (arith, nat_tests, t) in
    let e : 224 + c / 4096 < 256 = omega arith in (e, (middle, (last, tt))))
    (λ _. let e : 240 + c / 262144 < 256 = omega arith in (e, (second, (middle, (last, tt)))))))

and_true : (a b : Bool) → (a && b) ≡ true → (a ≡ true) × (b ≡ true)
and_true a b e = grind arith

characters-bytes : (cs : List ℕ) → all_scalars cs ≡ true → AreBytes (encode_utf8_all cs)
characters-bytes [] e = tt
characters-bytes (c ∷ cs) e =
    let both = and_true (scalar c) (all_scalars cs) e in
    AreBytes-append (encode_utf8 c) (encode_utf8_all cs) (character-bytes c both.0)
    (characters-bytes cs both.1)

-- the bytes of a text
pub utf8-bytes : (bs : List ℕ) → IsUtf8 bs → AreBytes bs
utf8-bytes bs u = subst AreBytes u.1.1 (characters-bytes u.0 u.1.0)

-- the texts of runs
pub runs-bytes : (runs : List Run) → TextsAreBytes (map run_view runs)
runs-bytes [] = tt
runs-bytes (run ∷ runs) =
    (utf8-bytes (string_bytes run.text) (IsUtf8-string_bytes run.text), runs-bytes runs)
