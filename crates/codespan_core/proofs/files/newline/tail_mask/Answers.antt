use Rattle.codespan_core.proofs.Std.{◌≡◌, ℕ, ◌+◌, ◌^◌, ◌<◌, ◌≤◌, Bool}
use Rattle.codespan_core.proofs.Std.{true, false, List, arith, map, length, drop, length-drop}
use Rattle.std.specs.Simd.Lanes.{mask_l}
use Rattle.codespan_core.specs.{is_newline}
use mir.Val.{bool_byte}
use Rattle.codespan_core.proofs.NewlineLemmas.{newline_mask_lt}
use Rattle.codespan_core.proofs.files.newline.tail_mask.Goals as goal

-- the mask of the bytes from i on, of which there are at most 31
small : (bytes : List ℕ) (from i mask : ℕ) → from < i → length bytes ≤ from + 32
    → mask ≡ mask_l (map is_newline (drop i bytes)) → mask < 2 ^ 31
small bytes from i mask some few masked =
    omega (
      arith,
      masked,
      newline_mask_lt (drop i bytes) 31 (omega (arith, length-drop i bytes)),
    )

-- a test as a number is at most 1
bit : (b : Bool) (r : ℕ) → r ≡ bool_byte b → r ≤ 1
bit true r e = omega (arith, e)
bit false r e = omega (arith, e)

-- so the next mask has at most 32 bits
pub overflow_mul-mask : goal.overflow_mul-mask
overflow_mul-mask c =
    let low =
    small c.args.bytes.now c.args.from _ _ c.loop-i-test.true c.requires.few
    c.loop-i.invariant.masked in
    omega (arith, low)

pub overflow_add-mask : goal.overflow_add-mask
overflow_add-mask c =
    let low =
    small c.args.bytes.now c.args.from _ _ c.loop-i-test.true c.requires.few
    c.loop-i.invariant.masked in
    omega (arith, low, bit _ _ c.from.ensures)
