use Rattle.codespan_core.proofs.Std.{◌≡◌, ℕ, ◌+◌, ◌%◌, ◌^◌, cond, map, leb, ltb}
use Rattle.codespan_core.proofs.Std.{List, [], ◌∷◌, refl, replicate, ap, ◌∙◌, arith}
use Rattle.codespan_core.proofs.Std.{count_by, nat_lt, nat_le, nat_tests, length-map, sum_by-cons}
use Rattle.codespan_core.proofs.Std.{count_by-le-length}
use Rattle.std.proofs.Common.{w8}
use Rattle.std.specs.Simd.Lanes.{chunk, mask_l}
use Rattle.std.proofs.lemmas.Simd.{length-chunk, bitmask_splat, tops_compared, zip2_splat_left}
use Rattle.std.proofs.lemmas.Simd.{mask_l-mod, ones-mask_l}
use Rattle.codespan_core.specs.{begins_char}
use lib.Count.{ones}
use Rattle.codespan_core.proofs.files.lines.boundaries_in_block.Goals as goal

-- a byte that begins a character is below 128 or at least 192, and not both
one_or_other : (b : ℕ)
    → cond {A = ℕ} (nat_lt b 128) 1 0 + cond (nat_le 192 b) 1 0 ≡ cond (begins_char b) 1 0
one_or_other b = grind (arith, nat_tests)

-- so the two counts add up to that of these bytes
count_either : (bs : List ℕ)
    → count_by (λ b. nat_lt b 128) bs + count_by (λ b. nat_le 192 b) bs
    ≡ count_by begins_char bs
count_either [] = refl
count_either (b ∷ bs) =
    omega (
      arith,
      sum_by-cons (λ x. cond (nat_lt x 128) 1 0) b bs,
      sum_by-cons (λ x. cond (nat_le 192 x) 1 0) b bs,
      sum_by-cons (λ x. cond (begins_char x) 1 0) b bs,
      one_or_other b,
      count_either bs,
    )

-- the ones of the two masks are these two counts
pub returns-clause-value : goal.returns-clause-value
returns-clause-value c =
    let v = chunk c.args.from 16 c.args.bytes.now in
    let long = length-chunk c.args.from 16 c.args.bytes.now c.requires in
    let ascii =
    ap ones (bitmask_splat w8 ltb v 16 128 long (omega arith))
    ∙ ones-mask_l (λ b. ltb b 128) v in
    let few = length-map v (λ b. leb 192 b) in
    let compared =
    tops_compared w8 leb (replicate 16 192) v ∙ zip2_splat_left leb 192 16 v long in
    let leading =
    ap (λ bs. ones (mask_l bs % 2 ^ 64)) compared
    ∙ ap ones (mask_l-mod (map (λ b. leb 192 b) v) 64 (omega (arith, few, long)))
    ∙ ones-mask_l (λ b. leb 192 b) v in
    (λ i. ascii i + leading i) ∙ count_either v

-- of 16 bytes at most 16 are counted
pub returns-clause-few : goal.returns-clause-few
returns-clause-few c =
    let v = chunk c.args.from 16 c.args.bytes.now in
    omega (
      arith,
      returns-clause-value c,
      count_by-le-length begins_char v,
      length-chunk c.args.from 16 c.args.bytes.now c.requires,
    )
