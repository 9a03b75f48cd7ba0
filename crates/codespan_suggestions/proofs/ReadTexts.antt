-- The texts of lines, as rows show them, for the clause of `laws::sources_and_output_give_texts`.
use Rattle.codespan_core.proofs.Std.{◌≡◌, ◌∙◌, ℕ, ◌+◌, ◌-◌, ◌≤◌, ◌==◌, ◌||◌}
use Rattle.codespan_core.proofs.Std.{Bool, true, false, cond, if◌then◌else◌, List, [], ◌∷◌}
use Rattle.codespan_core.proofs.Std.{◌++◌, length, take, drop, reverse}
use Rattle.codespan_core.proofs.Std.{refl, sym, ap, subst, arith}
use Rattle.codespan_core.proofs.Std.{AllByRecursion, nat_tests, length-append}
use Rattle.codespan_core.proofs.Std.{encode_utf8, encode_utf8_all, IsUtf8}
use Rattle.codespan_core.proofs.Std.{chars, reverse-append, take-append-drop, inl, inr}
use Rattle.codespan_core.proofs.Std.{and_parts, cases_eq, cond_both, nat_lt, drop_all}
use Rattle.codespan_core.proofs.Std.{IsScalar, ◌%◌, ◌/◌}
use Rattle.std.specs.List.{suffix_len, prefix_len}
use Rattle.std.specs.Str.{all_scalars}
use Rattle.std.proofs.lemmas.List.{take-append-le, drop-append-le}
use Rattle.std.proofs.lemmas.Str.{encodes-chars, scalars-chars, IsUtf8-append, IsUtf8-encode}
use Rattle.codespan_output.specs.CharMetrics.{is_line_end, text_without_line_end}
use Rattle.codespan_edits.specs.Diffs.{byte_before, lines}
use Rattle.codespan_suggestions.specs.DrawnText.{line_end}
use Rattle.codespan_suggestions.specs.ReadableChars.{IsOneRow}
use Rattle.codespan_suggestions.proofs.ReadRows.{IsEndByte}

-- ---- all bytes of texts

pub all-append : (P : ℕ → Type 0) (xs ys : List ℕ) → AllByRecursion P xs → AllByRecursion P ys
    → AllByRecursion P (xs ++ ys)
all-append P [] ys all more = more
all-append P (x ∷ xs) ys all more = (all.0, all-append P xs ys all.1 more)

pub all-first : (P : ℕ → Type 0) (xs ys : List ℕ) → AllByRecursion P (xs ++ ys)
    → AllByRecursion P xs
all-first P [] ys all = tt
all-first P (x ∷ xs) ys all = (all.0, all-first P xs ys all.1)

pub all-second : (P : ℕ → Type 0) (xs ys : List ℕ) → AllByRecursion P (xs ++ ys)
    → AllByRecursion P ys
all-second P [] ys all = all
all-second P (x ∷ xs) ys all = all-second P xs ys all.1

pub all-take : (P : ℕ → Type 0) (n : ℕ) (xs : List ℕ) → AllByRecursion P xs
    → AllByRecursion P (take n xs)
all-take P n xs all =
    all-first P (take n xs) (drop n xs)
    (subst (AllByRecursion P) (sym (take-append-drop n xs)) all)

-- ---- lines

-- a line has a last byte, and is one row before it
pub record IsLine (line : List ℕ) : Type 0 where
  pub before : List ℕ
  pub last : ℕ
  pub is : line ≡ before ++ last ∷ []
  pub one : IsOneRow before

line-more : (b : ℕ) (l : List ℕ) → (b == 10) ≡ false → IsLine l → IsLine (b ∷ l)
line-more b l other line = record {
  before = b ∷ line.before;
  last = line.last;
  is = ap (λ xs. b ∷ xs) line.is;
  one = (other, line.one);
}

one-byte : (b : ℕ) → IsLine (b ∷ [])
one-byte b = record { before = []; last = b; is = refl; one = tt }

pub lines-are : (text : List ℕ) → AllByRecursion IsLine (lines text)
lines-are [] = tt
lines-are (b ∷ bs) = by (b == 10) refl (lines bs) (lines-are bs) where
  by : (t : Bool) → (b == 10) ≡ t → (ls : List (List ℕ)) → AllByRecursion IsLine ls
      → AllByRecursion IsLine (if t then (b ∷ []) ∷ ls else byte_before b ls)
  by true is ls all = (one-byte b, all)
  by false is [] all = (one-byte b, tt)
  by false is (l ∷ ls) all = (line-more b l is all.0, all.1)

-- bytes before the first of some lines
abbrev bytes_before : List ℕ → List (List ℕ) → List (List ℕ)
bytes_before bs [] = bs ∷ []
bytes_before bs (l ∷ ls) = (bs ++ l) ∷ ls

lines-after : (b : ℕ) (bs text : List ℕ) → IsOneRow (b ∷ bs)
    → lines ((b ∷ bs) ++ text) ≡ bytes_before (b ∷ bs) (lines text)
lines-after b [] text one = rw one.0 (by (lines text)) where
  by : (ls : List (List ℕ)) → byte_before b ls ≡ bytes_before (b ∷ []) ls
  by [] = refl
  by (l ∷ ls) = refl
lines-after b (c ∷ cs) text one =
    rw one.0 (ap (byte_before b) (lines-after c cs text one.1) ∙ by (lines text))
  where
    by : (ls : List (List ℕ))
        → byte_before b (bytes_before (c ∷ cs) ls) ≡ bytes_before (b ∷ (c ∷ cs)) ls
    by [] = refl
    by (l ∷ ls) = refl

before-utf8 : (bs : List ℕ) (ls : List (List ℕ)) → IsUtf8 bs → AllByRecursion IsUtf8 ls
    → AllByRecursion IsUtf8 (bytes_before bs ls)
before-utf8 bs [] u all = (u, tt)
before-utf8 bs (l ∷ ls) u all = (IsUtf8-append bs l u all.0, all.1)

-- the bytes of a character are that one alone, or outside ASCII
pub bytes-one : (P : ℕ → Type 0) → ((b : ℕ) → 128 ≤ b → P b) → (c : ℕ) → P c
    → AllByRecursion P (encode_utf8 c)
unfolding encode_utf8
bytes-one P outside c own =
    let last : P (128 + c % 64) = outside _ (omega arith) in
    let middle : P (128 + c / 64 % 64) = outside _ (omega arith) in
    let second : P (128 + c / 4096 % 64) = outside _ (omega arith) in
    cond_both (nat_lt c 128) _ _ (AllByRecursion P)
    (λ t. (own, tt))
    (λ _. cond_both (nat_lt c 2048) _ _ (AllByRecursion P)
    (λ t. (outside _ (omega arith), (last, tt)))
    (λ _. cond_both (nat_lt c 65536) _ _ (AllByRecursion P)
    (λ t. (outside _ (omega arith), (middle, (last, tt))))
    (λ _. (outside _ (omega arith), (second, (middle, (last, tt)))))))

pub one-character : (c : ℕ) → (c == 10) ≡ false → IsOneRow (encode_utf8 c)
one-character c other =
    bytes-one (λ b. (b == 10) ≡ false) (λ b big. grind (arith, nat_tests)) c other

-- a character has a byte
some-bytes : (c : ℕ) (P : List ℕ → Type 0) → ((b : ℕ) (bs : List ℕ) → P (b ∷ bs))
    → P (encode_utf8 c)
unfolding encode_utf8
some-bytes c P each =
    cond_both (nat_lt c 128) _ _ P (λ t. each _ _)
    (λ _. cond_both (nat_lt c 2048) _ _ P (λ t. each _ _)
    (λ _. cond_both (nat_lt c 65536) _ _ P (λ t. each _ _) (λ _. each _ _)))

newline-lines : (c : ℕ) (text : List ℕ) → c ≡ 10
    → lines (encode_utf8 c ++ text) ≡ (10 ∷ []) ∷ lines text
unfolding encode_utf8
newline-lines c text is = rw is refl

-- the lines of characters
lines-of : (cs : List ℕ) → all_scalars cs ≡ true
    → AllByRecursion IsUtf8 (lines (encode_utf8_all cs))
unfolding encode_utf8
lines-of [] all = tt
lines-of (c ∷ cs) all =
    let each : IsScalar c = (and_parts _ _ all).0 in
    by (c == 10) refl (IsUtf8-encode c each) (lines-of cs (and_parts _ _ all).1)
  where
    by : (t : Bool) → (c == 10) ≡ t → IsUtf8 (encode_utf8 c)
        → AllByRecursion IsUtf8 (lines (encode_utf8_all cs))
        → AllByRecursion IsUtf8 (lines (encode_utf8 c ++ encode_utf8_all cs))
    by true is u rest =
        let code : c ≡ 10 = grind (arith, nat_tests, is) in
        rw (newline-lines c (encode_utf8_all cs) code)
        (IsUtf8-encode 10 refl, rest)
    by false is u rest =
        some-bytes c
        (λ bs. IsOneRow bs → IsUtf8 bs
        → AllByRecursion IsUtf8 (lines (bs ++ encode_utf8_all cs)))
        (λ b bs one v. subst (AllByRecursion IsUtf8)
        (sym (lines-after b bs (encode_utf8_all cs) one))
        (before-utf8 (b ∷ bs) (lines (encode_utf8_all cs)) v rest))
        (one-character c is) u

pub lines-utf8 : (text : List ℕ) → IsUtf8 text → AllByRecursion IsUtf8 (lines text)
lines-utf8 text u =
    subst (λ x. AllByRecursion IsUtf8 (lines x)) (encodes-chars text u)
    (lines-of (chars text) (scalars-chars text u))

-- ---- the text of a line, and its end

-- the last byte of a line that is no newline is no row's end
pub text-one : (line : List ℕ) → IsLine line → IsOneRow (text_without_line_end line)
text-one line is =
    let bs = is.before in
    let z = is.last in
    subst (λ xs. IsOneRow (text_without_line_end xs)) (sym is.is)
    (by (z == 10) refl)
  where
    by : (t : Bool) → (is.last == 10) ≡ t
        → IsOneRow (text_without_line_end (is.before ++ is.last ∷ []))
    by false other =
        all-take (λ b. (b == 10) ≡ false) _ (is.before ++ is.last ∷ [])
        (all-append (λ b. (b == 10) ≡ false) is.before (is.last ∷ []) is.one (other, tt))
    by true newline =
        let bs = is.before in
        let z = is.last in
        let passes : is_line_end z ≡ true = ap (λ t. t || (z == 13) || (z == 0)) newline in
        let k = prefix_len is_line_end (reverse bs) in
        let more : suffix_len is_line_end (bs ++ z ∷ []) ≡ 1 + k =
        ap (prefix_len is_line_end) (reverse-append bs (z ∷ []))
        ∙ ap (λ t. cond t (1 + k) 0) passes in
        let len : length (bs ++ z ∷ []) ≡ length bs + 1 = length-append bs (z ∷ []) in
        let cut : length (bs ++ z ∷ []) - suffix_len is_line_end (bs ++ z ∷ [])
        ≡ length bs - k =
        omega (arith, more, len) in
        subst (λ xs. IsOneRow xs)
        (sym (ap (λ n. take n (bs ++ z ∷ [])) cut
        ∙ take-append-le (length bs - k) bs (z ∷ []) (omega arith)))
        (all-take (λ b. (b == 10) ≡ false) (length bs - k) bs is.one)

end-byte : (b : ℕ) → is_line_end b ≡ true → IsEndByte b
end-byte b is =
    elim (cases_eq b 10) [
      | inl h ↦ inl (inl h)
      | inr h ↦ elim (cases_eq b 13) [
        | inl i ↦ inl (inr i)
        | inr i ↦ inr (let z : b ≡ 0 = grind (arith, nat_tests, is, h, i) in z)
      ]
    ]

reverse-cons : (x : ℕ) (xs : List ℕ) → reverse (x ∷ xs) ≡ reverse xs ++ x ∷ []
reverse-cons x xs = reverse-append (x ∷ []) xs

-- the bytes after the last one that is no line end, of a text from its end
ends-of : (xs : List ℕ)
    → AllByRecursion IsEndByte
    (drop (length (reverse xs) - prefix_len is_line_end xs) (reverse xs))
ends-of [] = tt
ends-of (x ∷ xs) =
    subst
    (λ ys. AllByRecursion IsEndByte (drop (length ys - prefix_len is_line_end (x ∷ xs)) ys))
    (sym (reverse-cons x xs)) (by (is_line_end x) refl (ends-of xs))
  where
    by : (t : Bool) → is_line_end x ≡ t
        → AllByRecursion IsEndByte
        (drop (length (reverse xs) - prefix_len is_line_end xs) (reverse xs))
        → AllByRecursion IsEndByte
        (drop (length (reverse xs ++ x ∷ []) - cond t (1 + prefix_len is_line_end xs) 0)
        (reverse xs ++ x ∷ []))
    by true is rest =
        let k = prefix_len is_line_end xs in
        let len : length (reverse xs ++ x ∷ []) ≡ length (reverse xs) + 1 =
        length-append (reverse xs) (x ∷ []) in
        let cut : length (reverse xs ++ x ∷ []) - (1 + k) ≡ length (reverse xs) - k =
        omega (arith, len) in
        subst (AllByRecursion IsEndByte)
        (sym (ap (λ n. drop n (reverse xs ++ x ∷ [])) cut
        ∙ drop-append-le (length (reverse xs) - k) (reverse xs) (x ∷ []) (omega arith)))
        (all-append IsEndByte (drop (length (reverse xs) - k) (reverse xs)) (x ∷ []) rest
        (end-byte x is, tt))
    by false is rest =
        let none : length (reverse xs ++ x ∷ []) - 0 ≡ length (reverse xs ++ x ∷ []) =
        omega arith in
        subst (AllByRecursion IsEndByte)
        (sym (ap (λ n. drop n (reverse xs ++ x ∷ [])) none
        ∙ drop_all _ (reverse xs ++ x ∷ []) (omega arith)))
        tt

pub end-bytes : (line : List ℕ) → AllByRecursion IsEndByte (line_end line)
end-bytes line =
    subst (λ xs. AllByRecursion IsEndByte (drop (length xs - suffix_len is_line_end line) xs))
    (reverse-twice line) (ends-of (reverse line))
  where
    reverse-twice : (xs : List ℕ) → reverse (reverse xs) ≡ xs
    reverse-twice [] = refl
    reverse-twice (x ∷ xs) =
        ap reverse (reverse-cons x xs)
        ∙ (reverse-append (reverse xs) (x ∷ []) ∙ ap (λ ys. x ∷ ys) (reverse-twice xs))
