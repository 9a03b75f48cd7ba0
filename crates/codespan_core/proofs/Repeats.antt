-- For the clauses of `put_spaces`, `put_repeated`, `put_runs`, `fill` and `write_digits`: spaces,
-- repeated characters and numbers, part by part.
use Rattle.codespan_core.proofs.Std.{◌≡◌, ℕ, zero, suc, get_or, ◌+◌, ◌-◌, ◌*◌}
use Rattle.codespan_core.proofs.Std.{◌/◌, ◌%◌, ◌^◌, ◌<◌, ◌≤◌, List, []}
use Rattle.codespan_core.proofs.Std.{◌∷◌, ◌++◌, length, take, drop, replicate, refl, sym}
use Rattle.codespan_core.proofs.Std.{ap, ◌∙◌, append_assoc, append-nil, arith, repeat}
use Rattle.codespan_core.proofs.Std.{encode_utf8, common_steps, take-append_seam, length-append}
use Rattle.codespan_core.proofs.Std.{length-drop}
use Rattle.std.proofs.Common.{mul-le-mul_right}
use Rattle.std.specs.Fmt.{decimal}
use Rattle.std.proofs.lemmas.Fmt.{decimal_digit, decimal_nonempty, decimal_step, length-decimal-le}
use Rattle.std.proofs.lemmas.List.{drop-set, replicate-append-replicate, take-replicate, take-take}
use Rattle.std.specs.Prelude.{slice_set}
use Rattle.codespan_core.specs.{Stream, byte_stream, spaces, repeated, glyph}
use Rattle.codespan_core.proofs.Writes.{byte_stream-append}

-- ---- spaces

-- the first k of them
pub spaces-next : (k n : ℕ) → k ≤ n
    → spaces n ≡ byte_stream (replicate k 32) ++ spaces (n - k)
unfolding spaces
spaces-next k n h =
    let e : n ≡ k + (n - k) = omega arith in
    let f : replicate {A = ℕ} n 32 ≡ replicate k 32 ++ replicate (n - k) 32 =
    ap (λ (m : ℕ). replicate {A = ℕ} m 32) e
    ∙ sym (replicate-append-replicate k (n - k) 32) in
    ap byte_stream f ∙ byte_stream-append (replicate k 32) (replicate (n - k) 32)

-- the first n of k spaces
pub spaces-front : (k n : ℕ) → n ≤ k → byte_stream (take n (replicate k 32)) ≡ spaces n
unfolding spaces
spaces-front k n h =
    let e : take n (replicate {A = ℕ} k 32) ≡ replicate n 32 = take-replicate n k 32 h in
    ap byte_stream e

-- ---- one character many times

-- copies of a list, and then more of them
pub repeat-add : {A : Type 0} (k n : ℕ) (xs : List A)
    → repeat (k + n) xs ≡ repeat k xs ++ repeat n xs
repeat-add {A = A} zero n xs = let e : 0 + n ≡ n = omega arith in ap (λ (m : ℕ). repeat m xs) e
repeat-add {A = A} (suc k) n xs =
    let e : suc k + n ≡ suc (k + n) = omega arith in
    ap (λ (m : ℕ). repeat m xs) e ∙ ap (λ (l : List A). xs ++ l) (repeat-add k n xs)
    ∙ sym (append_assoc xs (repeat k xs) (repeat n xs))

-- no bytes
byte_stream-nil : byte_stream [] ≡ []
unfolding byte_stream
byte_stream-nil = refl

-- bytes that are repeated, as a stream
pub byte_stream-repeat : (n : ℕ) (bs : List ℕ) → byte_stream (repeat n bs)
    ≡ repeat n (byte_stream bs)
byte_stream-repeat zero bs = byte_stream-nil
byte_stream-repeat (suc n) bs =
    byte_stream-append bs (repeat n bs) ∙ ap (λ (l : Stream). byte_stream bs ++ l)
    (byte_stream-repeat n bs)

-- the number of bytes of k copies
length-repeat : (k : ℕ) (bs : List ℕ) → length (repeat k bs) ≡ k * length bs
length-repeat zero bs = omega arith
length-repeat (suc k) bs = let e : length (repeat k bs) ≡ k * length bs = length-repeat k bs in
    omega (arith, length-append bs (repeat k bs))

-- the first k copies
pub take-repeat : (k n : ℕ) (bs : List ℕ) → k ≤ n
    → take (k * length bs) (repeat n bs) ≡ repeat k bs
take-repeat k n bs h =
    let e : n ≡ k + (n - k) = omega arith in
    let f : repeat n bs ≡ repeat k bs ++ repeat (n - k) bs =
    ap (λ (m : ℕ). repeat m bs) e ∙ repeat-add k (n - k) bs in
    ap (take (k * length bs)) f
    ∙ ap (λ (m : ℕ). take m (repeat k bs ++ repeat (n - k) bs)) (sym (length-repeat k bs))
    ∙ take-append_seam (repeat k bs) (repeat (n - k) bs)

-- a character once
pub repeated-one : (c : ℕ) → repeated 1 c ≡ glyph c
unfolding repeated
repeated-one c = append-nil (glyph c)

-- and twice
pub repeated-two : (c : ℕ) → repeated 2 c ≡ glyph c ++ glyph c
unfolding repeated
repeated-two c = ap (λ (l : Stream). glyph c ++ l) (append-nil (glyph c))

-- a character of three bytes twice
pub repeated-pair : (c : ℕ) (xs : List ℕ) → length xs ≡ 3 → xs ≡ encode_utf8 c
    → byte_stream
    (get_or xs 0 0 ∷ get_or xs 1 0 ∷ get_or xs 2 0 ∷ get_or xs 0 0 ∷ get_or xs 1 0 ∷
    get_or xs 2 0
    ∷ [])
    ≡ repeated 2 c
unfolding repeated
repeated-pair c (x ∷ y ∷ z ∷ []) e is =
    byte_stream-repeat 2 (x ∷ y ∷ z ∷ [])
    ∙ ap (λ (l : List ℕ). repeat 2 (byte_stream l)) is
repeated-pair c [] e is = absurd (omega (arith, e))
repeated-pair c (x ∷ []) e is = absurd (omega (arith, e))
repeated-pair c (x ∷ y ∷ []) e is = absurd (omega (arith, e))
repeated-pair c (x ∷ y ∷ z ∷ w ∷ xs) e is = absurd (omega (arith, e))

-- a run that begins with k copies holds the first k of them
pub repeated-next : (k n c : ℕ) (g run : List ℕ) → g ≡ encode_utf8 c → k ≤ n
    → take (k * length g) run ≡ repeat k g
    → repeated n c ≡ byte_stream (take (k * length g) run) ++ repeated (n - k) c
unfolding repeated
repeated-next k n c g run e h r =
    let all : n ≡ k + (n - k) = omega arith in
    let front : byte_stream (take (k * length g) run) ≡ repeat k (glyph c) =
    ap byte_stream r ∙ byte_stream-repeat k g
    ∙ ap (λ (l : List ℕ). repeat k (byte_stream l)) e in
    ap (λ (m : ℕ). repeat m (glyph c)) all ∙ repeat-add k (n - k) (glyph c)
    ∙ ap (λ (l : Stream). l ++ repeat (n - k) (glyph c)) (sym front)

-- and the first n copies, where there are no more than k
pub repeated-front : (k n c : ℕ) (g run : List ℕ) → g ≡ encode_utf8 c → n ≤ k
    → take (k * length g) run ≡ repeat k g
    → byte_stream (take (n * length g) run) ≡ repeated n c
unfolding repeated
repeated-front k n c g run e h r =
    let f : n * length g ≤ k * length g = mul-le-mul_right (length g) h in
    let fewer : take (n * length g) run ≡ repeat n g =
    sym (take-take (n * length g) (k * length g) run f) ∙ ap (take (n * length g)) r
    ∙ take-repeat n k g h in
    ap byte_stream fewer ∙ byte_stream-repeat n g
    ∙ ap (λ (l : List ℕ). repeat n (byte_stream l)) e

-- the number of bytes of one more copy
pub add-one_mul : (n m : ℕ) → (n + 1) * m ≡ n * m + m
add-one_mul n m = grind (arith, common_steps)

-- copies so far, and one more
pub repeat-push : (n : ℕ) (bs : List ℕ) → repeat (n + 1) bs ≡ repeat n bs ++ bs
repeat-push n bs = repeat-add n 1 bs ∙ ap (λ (l : List ℕ). repeat n bs ++ l) (append-nil bs)

-- ---- numbers

-- the digits that are still to be written fit before those that are
digits_fit : (n rest start : ℕ) (ds : List ℕ) → n < 2 ^ 64 → length ds ≡ 20
    → start ≤ 20
    → decimal n ≡ decimal rest ++ drop start ds → length (decimal rest) ≤ start
digits_fit n rest start ds h l s e =
    let all : length (decimal n) ≤ 20 = length-decimal-le 20 n (omega arith) (omega arith) h in
    let parts : length (decimal n) ≡ length (decimal rest) + length (drop start ds) =
    ap length e ∙ length-append (decimal rest) (drop start ds) in
    omega (arith, length-drop start ds)

-- so one more digit fits
pub digits_room : (n rest start : ℕ) (ds : List ℕ) → n < 2 ^ 64 → rest < 2 ^ 64
    → length ds ≡ 20
    → start ≤ 20 → decimal n ≡ decimal rest ++ drop start ds → 0 < start
digits_room n rest start ds h k l s e =
    omega (arith, digits_fit n rest start ds h l s e, decimal_nonempty rest k)

-- one more digit was written
pub digits-more : (n rest start : ℕ) (ds : List ℕ) → n < 2 ^ 64 → rest < 2 ^ 64
    → length ds ≡ 20
    → start ≤ 20 → 10 ≤ rest → decimal n ≡ decimal rest ++ drop start ds
    → decimal n ≡ decimal (rest / 10) ++ drop (start - 1)
    (slice_set ds (start - 1) (48 + rest % 10))
digits-more n rest start ds h k l s t e =
    let step : decimal rest ≡ decimal (rest / 10) ++ (48 + rest % 10) ∷ [] =
    decimal_step rest t k in
    let room : 0 < start = digits_room n rest start ds h k l s e in
    let set : drop (start - 1) (slice_set ds (start - 1) (48 + rest % 10)) ≡ (48 + rest % 10)
    ∷ drop (start - 1 + 1) ds =
    drop-set ds (start - 1) (48 + rest % 10) (omega arith) in
    let same : start - 1 + 1 ≡ start = omega arith in
    e ∙ ap (λ (d : List ℕ). d ++ drop start ds) step
    ∙ append_assoc (decimal (rest / 10)) ((48 + rest % 10) ∷ []) (drop start ds)
    ∙ ap (λ (d : List ℕ). decimal (rest / 10) ++ d)
    (sym (set ∙ ap (λ (i : ℕ). (48 + rest % 10) ∷ drop i ds) same))

-- the first digit, which is written last
pub digits-last : (n rest start : ℕ) (ds : List ℕ) → n < 2 ^ 64 → length ds ≡ 20
    → start ≤ 20
    → rest < 10 → decimal n ≡ decimal rest ++ drop start ds
    → drop (start - 1) (slice_set ds (start - 1) (48 + rest)) ≡ decimal n
digits-last n rest start ds h l s t e =
    let room : 0 < start = digits_room n rest start ds h (omega arith) l s e in
    let set : drop (start - 1) (slice_set ds (start - 1) (48 + rest)) ≡ (48 + rest)
    ∷ drop (start - 1 + 1) ds =
    drop-set ds (start - 1) (48 + rest) (omega arith) in
    let same : start - 1 + 1 ≡ start = omega arith in
    set ∙ ap (λ (i : ℕ). (48 + rest) ∷ drop i ds) same
    ∙ sym (e ∙ ap (λ (d : List ℕ). d ++ drop start ds) (decimal_digit rest t))
