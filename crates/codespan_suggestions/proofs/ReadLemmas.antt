-- Rows read from their texts, for the clause of `laws::sources_and_output_give_texts`.
use Rattle.codespan_core.proofs.Std.{◌≡◌, ◌∙◌, ℕ, ◌+◌, ◌-◌, ◌<◌, ◌≤◌, ◌^◌, ◌/◌}
use Rattle.codespan_core.proofs.Std.{◌%◌, ◌==◌, ◌||◌, Bool, true, false}
use Rattle.codespan_core.proofs.Std.{if◌then◌else◌, List, [], ◌∷◌, ◌++◌, length, take, drop}
use Rattle.codespan_core.proofs.Std.{filter, flat_map, replicate, refl, sym, ap, arith}
use Rattle.codespan_core.proofs.Std.{append_assoc, append-nil, decimal, AllByRecursion}
use Rattle.codespan_core.proofs.Std.{nat_tests, Option, Some, None, zero, suc, length-append}
use Rattle.codespan_core.proofs.Std.{filter-append, true≢false}
use Rattle.std.proofs.Math.Seq.{take-append_seam}
use Rattle.std.proofs.lemmas.List.{length-replicate}
use Rattle.std.proofs.lemmas.Fmt.{decimal_by_steps}
use Rattle.std.proofs.lemmas.Int.Digits.{digits_value_push}
use Rattle.std.specs.Char.{digit_value}
use Rattle.std.specs.List.{prefix_len}
use Rattle.std.specs.Str.Parse.{digits_value}
use Rattle.codespan_edits.specs.Diffs.{byte_before}
use Rattle.codespan_suggestions.specs.ReadOutput.{text_rows, after_bytes, is_digit, is_gutter}
use Rattle.codespan_suggestions.specs.ReadOutput.{gutter_of, after_gutter, number_of_digits}
use Rattle.codespan_suggestions.specs.ReadOutput.{number_among}
use Rattle.codespan_suggestions.specs.ReadableChars.{IsOneRow, EndsGutter, are_apart}

-- ---- rows of a text

-- a row before a newline is one of the text
row-cut : (row rest : List ℕ) → IsOneRow row
    → text_rows (row ++ 10 ∷ rest) ≡ row ∷ text_rows rest
row-cut [] rest one = refl
row-cut (b ∷ bs) rest one = rw one.0 (ap (byte_before b) (row-cut bs rest one.1))

-- rows that are ended by newlines are those of the text
pub rows-cut : (rows : List (List ℕ)) → AllByRecursion IsOneRow rows
    → text_rows (flat_map (λ row. row ++ 10 ∷ []) rows) ≡ rows
rows-cut [] one = refl
rows-cut (r ∷ rs) one =
    ap text_rows (append_assoc r (10 ∷ []) (flat_map (λ row. row ++ 10 ∷ []) rs))
    ∙ (row-cut r (flat_map (λ row. row ++ 10 ∷ []) rs) one.0
    ∙ ap (λ xs. r ∷ xs) (rows-cut rs one.1))

-- ---- texts that begin with bytes

pub after-bytes : (bs text : List ℕ) → after_bytes bs (bs ++ text) ≡ Some text
after-bytes [] text = refl
after-bytes (b ∷ bs) text =
    let same : (b == b) ≡ true = grind (arith, nat_tests) in rw same (after-bytes bs text)

pub after-apart : (bs cs text : List ℕ) → are_apart bs cs ≡ true
    → after_bytes bs (cs ++ text) ≡ None
after-apart [] cs text apart = absurd (true≢false (sym apart))
after-apart (b ∷ bs) [] text apart = absurd (true≢false (sym apart))
after-apart (b ∷ bs) (c ∷ cs) text apart =
    by (b == c) (λ h. after-apart bs cs text h) apart where
      by : (t : Bool) → (are_apart bs cs ≡ true → after_bytes bs (cs ++ text) ≡ None)
          → (if t then are_apart bs cs else true) ≡ true
          → (if t then after_bytes bs (cs ++ text) else None) ≡ None
      by true rest h = rest h
      by false rest h = refl

-- ---- gutters

AllGutter : List ℕ → Type 0
AllGutter = AllByRecursion (λ b. is_gutter b ≡ true)

-- the gutter ends where what follows it begins
gutter-length : (cells text : List ℕ) → AllByRecursion (λ b. is_gutter b ≡ true) cells
    → EndsGutter text → prefix_len is_gutter (cells ++ text) ≡ length cells
gutter-length [] [] all ends = refl
gutter-length [] (b ∷ bs) all ends = rw ends refl
gutter-length (c ∷ cs) text all ends =
    rw all.0 (omega (arith, gutter-length cs text all.1 ends))

pub gutter-read : (cells text : List ℕ) → AllByRecursion (λ b. is_gutter b ≡ true) cells
    → EndsGutter text → gutter_of (cells ++ text) ≡ cells
gutter-read cells text all ends =
    ap (λ n. take n (cells ++ text)) (gutter-length cells text all ends)
    ∙ take-append_seam cells text

drop-seam : (xs ys : List ℕ) → drop (length xs) (xs ++ ys) ≡ ys
drop-seam [] ys = refl
drop-seam (x ∷ xs) ys = drop-seam xs ys

pub after-gutter : (cells text : List ℕ) → AllByRecursion (λ b. is_gutter b ≡ true) cells
    → EndsGutter text → after_gutter (cells ++ text) ≡ text
after-gutter cells text all ends =
    ap (λ n. drop n (cells ++ text)) (gutter-length cells text all ends) ∙ drop-seam cells text

-- ---- numbers

-- the cells of a number: it is aligned to the right, before a space
abbrev pub number_cells : ℕ → Option ℕ → List ℕ
number_cells padding None = replicate (padding + 1) 32
number_cells padding (Some n) =
    replicate (padding - length (decimal n)) 32 ++ (decimal n ++ 32 ∷ [])

-- a number is of 64 bits, and has its cells
abbrev pub HasCells : ℕ → Option ℕ → Type 0
HasCells padding None = Unit {0}
HasCells padding (Some n) = (n < 2 ^ 64) × (length (decimal n) ≤ padding)

-- a number has digits alone, and their value
pub record IsNumeral (n : ℕ) (ds : List ℕ) : Type 0 where
  pub digits : AllByRecursion (λ d. is_digit d ≡ true) ds
  pub some : 0 < length ds
  pub value : digits_value 10 ds ≡ n

digit-value : (n : ℕ) → n < 10 → digit_value (48 + n) ≡ n
digit-value n few = grind (arith, nat_tests, few)

is-digit : (n : ℕ) → n < 10 → is_digit (48 + n) ≡ true
is-digit n few = grind (arith, nat_tests)

digits-more : (xs : List ℕ) (y : ℕ) → AllByRecursion (λ d. is_digit d ≡ true) xs
    → is_digit y ≡ true → AllByRecursion (λ d. is_digit d ≡ true) (xs ++ y ∷ [])
digits-more [] y all one = (one, tt)
digits-more (x ∷ xs) y all one = (all.0, digits-more xs y all.1 one)

pub decimal-numeral : (n : ℕ) → n < 2 ^ 64 → IsNumeral n (decimal n)
decimal-numeral =
    decimal_by_steps (λ n ds. IsNumeral n ds)
    (λ n few. record {
      digits = (is-digit n few, tt);
      some = omega arith;
      value =
          let is : digit_value (48 + n) ≡ n = digit-value n few in omega (arith, is);
    })
    (λ n ds many before. record {
      digits = digits-more ds (48 + n % 10) before.digits (is-digit (n % 10) (omega arith));
      some = omega (arith, length-append ds ((48 + n % 10) ∷ []));
      value =
          let last : digit_value (48 + n % 10) ≡ n % 10 = digit-value (n % 10) (omega arith) in
          digits_value_push 10 ds (48 + n % 10)
          ∙ omega (arith, last, before.value);
    })

-- spaces have no digit, and digits have nothing else
spaces-none : (n : ℕ) → filter is_digit (replicate n 32) ≡ []
spaces-none zero = refl
spaces-none (suc n) = spaces-none n

digits-stay : (ds : List ℕ) → AllByRecursion (λ d. is_digit d ≡ true) ds
    → filter is_digit ds ≡ ds
digits-stay [] all = refl
digits-stay (d ∷ ds) all = rw all.0 (ap (λ xs. d ∷ xs) (digits-stay ds all.1))

some-number : (ds : List ℕ) → 0 < length ds → number_of_digits ds ≡ Some (digits_value 10 ds)
some-number [] some = absurd (omega (arith, some))
some-number (d ∷ ds) some = refl

pub number-read : (padding : ℕ) (o : Option ℕ) → HasCells padding o
    → number_among (number_cells padding o) ≡ o
number-read padding None has = ap number_of_digits (spaces-none (padding + 1))
number-read padding (Some n) has =
    let ds = decimal n in
    let is = decimal-numeral n has.0 in
    let k = padding - length ds in
    let found : filter is_digit (replicate k 32 ++ (ds ++ 32 ∷ [])) ≡ ds =
    filter-append is_digit (replicate k 32) (ds ++ 32 ∷ [])
    ∙ (ap (λ xs. xs ++ filter is_digit (ds ++ 32 ∷ [])) (spaces-none k)
    ∙ (filter-append is_digit ds (32 ∷ [])
    ∙ (append-nil (filter is_digit ds) ∙ digits-stay ds is.digits))) in
    ap number_of_digits found
    ∙ (some-number ds is.some ∙ ap (λ (m : ℕ). Some m) is.value)

pub cells-length : (padding : ℕ) (o : Option ℕ) → HasCells padding o
    → length (number_cells padding o) ≡ padding + 1
cells-length padding None has = length-replicate {A = ℕ} (padding + 1) 32
cells-length padding (Some n) has =
    let k = padding - length (decimal n) in
    let one = length-append (replicate k 32) (decimal n ++ 32 ∷ []) in
    let two = length-append (decimal n) (32 ∷ []) in
    let three = length-replicate {A = ℕ} k 32 in
    let fits : length (decimal n) ≤ padding = has.1 in
    omega (arith, one, two, three, fits)

-- cells are digits and spaces
pub gutter-append : (xs ys : List ℕ) → AllByRecursion (λ b. is_gutter b ≡ true) xs
    → AllByRecursion (λ b. is_gutter b ≡ true) ys
    → AllByRecursion (λ b. is_gutter b ≡ true) (xs ++ ys)
gutter-append [] ys a b = b
gutter-append (x ∷ xs) ys a b = (a.0, gutter-append xs ys a.1 b)

gutter-spaces : (n : ℕ) → AllByRecursion (λ b. is_gutter b ≡ true) (replicate n 32)
gutter-spaces zero = tt
gutter-spaces (suc n) = (refl, gutter-spaces n)

gutter-digits : (ds : List ℕ) → AllByRecursion (λ d. is_digit d ≡ true) ds
    → AllByRecursion (λ b. is_gutter b ≡ true) ds
gutter-digits [] all = tt
gutter-digits (d ∷ ds) all = (ap (λ t. t || (d == 32)) all.0, gutter-digits ds all.1)

pub cells-gutter : (padding : ℕ) (o : Option ℕ) → HasCells padding o
    → AllByRecursion (λ b. is_gutter b ≡ true) (number_cells padding o)
cells-gutter padding None has = gutter-spaces (padding + 1)
cells-gutter padding (Some n) has =
    gutter-append (replicate (padding - length (decimal n)) 32) (decimal n ++ 32 ∷ [])
    (gutter-spaces (padding - length (decimal n)))
    (gutter-append (decimal n) (32 ∷ [])
    (gutter-digits (decimal n) (decimal-numeral n has.0).digits)
    (refl, tt))

-- the two halves of two such cells
pub left-half : (xs ys : List ℕ) → length xs ≡ length ys
    → take (length (xs ++ ys) / 2) (xs ++ ys) ≡ xs
left-half xs ys same =
    let half : length (xs ++ ys) / 2 ≡ length xs = omega (arith, length-append xs ys, same) in
    ap (λ n. take n (xs ++ ys)) half ∙ take-append_seam xs ys

pub right-half : (xs ys : List ℕ) → length xs ≡ length ys
    → drop (length (xs ++ ys) / 2) (xs ++ ys) ≡ ys
right-half xs ys same =
    let half : length (xs ++ ys) / 2 ≡ length xs = omega (arith, length-append xs ys, same) in
    ap (λ n. drop n (xs ++ ys)) half ∙ drop-seam xs ys
