-- For `width_before` and `width_up_to`: how wide the characters of a line are up to a byte index.
use Rattle.codespan_core.proofs.Std.{◌≡◌, ℕ, ◌+◌, ◌≤◌, ◌<◌, Bool, true, false}
use Rattle.codespan_core.proofs.Std.{cond, List, [], ◌∷◌, refl, ap, ◌∙◌, arith, nat_lt}
use Rattle.codespan_core.proofs.Std.{nat_le, le-leb, lt-leb, le-ltb, nat_tests, sum_by-cons}
use Rattle.codespan_output.specs.Types.{Metrics}
use Rattle.codespan_output.specs.{width_of, metrics_before, metrics_up_to}

-- a character that begins at the byte index or before it is counted
pub width-in : (byte_index : ℕ) (x : Metrics) (cs : List Metrics) → x.byte_index ≤ byte_index
    → width_of (metrics_up_to byte_index (x ∷ cs)) ≡ x.unicode_width + width_of
    (metrics_up_to byte_index cs)
width-in byte_index x cs h =
    let e : nat_le x.byte_index byte_index ≡ true = le-leb x.byte_index byte_index h in
    rw e (sum_by-cons (λ (c : Metrics). c.unicode_width) x (metrics_up_to byte_index cs))

-- a later one is not
pub width-out : (byte_index : ℕ) (x : Metrics) (cs : List Metrics) → byte_index < x.byte_index
    → width_of (metrics_up_to byte_index (x ∷ cs)) ≡ width_of (metrics_up_to byte_index cs)
width-out byte_index x cs h =
    let e : nat_le x.byte_index byte_index ≡ false = lt-leb x.byte_index byte_index h in
    rw e refl

-- no character begins before the line
pub width-before-first : (byte_index : ℕ) (cs : List Metrics) → byte_index ≡ 0
    → 0 ≡ width_of (metrics_before byte_index cs)
width-before-first byte_index [] e = refl
width-before-first byte_index (x ∷ cs) e =
    let k : nat_lt x.byte_index byte_index ≡ false =
    le-ltb x.byte_index byte_index (omega (arith, e)) in
    rw k (width-before-first byte_index cs e)

-- a byte index is at most the last one where it is before the next
same-test : (last byte_index k : ℕ) → byte_index ≡ last + 1
    → nat_le k last ≡ nat_lt k byte_index
same-test last byte_index k e = grind (arith, nat_tests)

-- the characters that begin up to a byte index are those that begin before the next one
pub before-next : (last byte_index : ℕ) (cs : List Metrics) → byte_index ≡ last + 1
    → metrics_up_to last cs ≡ metrics_before byte_index cs
before-next last byte_index [] e = refl
before-next last byte_index (x ∷ cs) e =
    ap (λ (b : Bool). cond b (x ∷ metrics_up_to last cs) (metrics_up_to last cs))
    (same-test last byte_index x.byte_index e)
    ∙ ap (λ (ys : List Metrics). cond (nat_lt x.byte_index byte_index) (x ∷ ys) ys)
    (before-next last byte_index cs e)

-- and they are as wide
pub width-before-next : (last byte_index : ℕ) (cs : List Metrics) → byte_index ≡ last + 1
    → width_of (metrics_up_to last cs) ≡ width_of (metrics_before byte_index cs)
width-before-next last byte_index cs e = ap width_of (before-next last byte_index cs e)

pub ruleset widths_before = (width-before-first, width-before-next)
