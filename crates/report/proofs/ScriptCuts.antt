-- For the clauses of `lines::first_line` and `lines::without_carriage_return`, and for both laws: a
-- text, cut into lines, and a line that is cut.
use Rattle.codespan_core.proofs.Std.{◌≡◌, ◌≢◌, ℕ, ◌+◌, ◌-◌, ◌<◌}
use Rattle.codespan_core.proofs.Std.{◌≤◌, ◌==◌, true, false, List, [], ◌∷◌}
use Rattle.codespan_core.proofs.Std.{◌++◌, length, get_or, take, drop, refl, sym, ap, ◌∙◌}
use Rattle.codespan_core.proofs.Std.{arith, if◌then◌else◌, slice_split, nat_tests}
use Rattle.codespan_core.proofs.Std.{common_steps, drop-drop, take_all, take_more, length-append}
use Rattle.std.specs.Str.Lines.{strip_carriage_return}
use Rattle.std.proofs.lemmas.List.{drop_at, take_at, get_or_push, length_push}
use Rattle.std.proofs.lemmas.List.Splits.{length-slice_split}
use Rattle.report.specs.ScriptLines.{is_newline, script_lines_from}

-- no element of the list is c
abbrev pub Lacks : ℕ → List ℕ → Type 0
Lacks c xs = (i : ℕ) → i < length xs → get_or xs i 0 ≢ c

head_differs : (c x : ℕ) (xs : List ℕ) → Lacks c (x ∷ xs) → (x == c) ≡ false
head_differs c x xs h = let ne : x ≢ c = h 0 (grind (arith, common_steps)) in
    grind (arith, nat_tests)

pub Lacks-tail : (c x : ℕ) (xs : List ℕ) → Lacks c (x ∷ xs) → Lacks c xs
Lacks-tail c x xs h i lt = let k = h (i + 1) (grind (arith, common_steps)) in
    grind (arith, common_steps)

same_test : (c : ℕ) → (c == c) ≡ true
same_test c = grind (arith, nat_tests)

-- a text without c is one piece
pub pieces_of_one : (c : ℕ) (xs : List ℕ) → Lacks c xs
    → slice_split (λ x. x == c) xs ≡ xs ∷ []
pieces_of_one c [] h = refl
pieces_of_one c (x ∷ xs) h = rw (head_differs c x xs h, pieces_of_one c xs (Lacks-tail c x xs h))

-- the first piece ends at the first c
pub pieces_at : (c : ℕ) (xs ys : List ℕ) → Lacks c xs
    → slice_split (λ x. x == c) (xs ++ c ∷ ys) ≡ xs ∷ slice_split (λ x. x == c) ys
pieces_at c [] ys h = rw (same_test c)
pieces_at c (x ∷ xs) ys h = rw (head_differs c x xs h, pieces_at c xs ys (Lacks-tail c x xs h))

-- there is a piece
pub some_piece : (p : ℕ → _) (xs : List ℕ) → 0 < length (slice_split p xs)
some_piece p xs = omega (arith, length-slice_split p xs)

-- a piece with others after it is a line, and the others begin after its newline
pub line_then : (start : ℕ) (piece : List ℕ) (pieces : List (List ℕ)) → 0 < length pieces
    → script_lines_from start
    (piece ∷ pieces)
    ≡ record {
      start = start;
      text = strip_carriage_return piece;
      next = start + length piece + 1;
    }
    ∷ script_lines_from (start + length piece + 1) pieces
line_then start piece [] some = absurd (omega arith)
line_then start piece (other ∷ more) some = refl

-- the first line of what is left of an input
pub first_then : (size : ℕ) (left text after : List ℕ) → length left ≤ size
    → left ≡ text ++ 10 ∷ after → Lacks 10 text
    → script_lines_from (size - length left) (slice_split is_newline left)
    ≡ record {
      start =
          size - length left;
      text = strip_carriage_return text;
      next = size - length after;
    }
    ∷ script_lines_from (size - length after) (slice_split is_newline after)
first_then size left text after within is lacks =
    let long : length left ≡ length text + length (10 ∷ after) =
    ap length is ∙ length-append text (10 ∷ after) in
    let at : size - length left + length text + 1 ≡ size - length after = omega arith in
    ap (λ l. script_lines_from (size - length left) (slice_split is_newline l)) is
    ∙ ap (script_lines_from (size - length left)) (pieces_at 10 text after lacks)
    ∙ line_then (size - length left) text (slice_split is_newline after)
    (some_piece is_newline after)
    ∙ ap
    (λ n. record { start = size - length left; text = strip_carriage_return text; next = n }
    ∷ script_lines_from n (slice_split is_newline after))
    at

-- the one line of what is left without a newline
pub last_line : (size : ℕ) (left : List ℕ) → length left ≤ size → Lacks 10 left
    → script_lines_from (size - length left)
    (slice_split is_newline left)
    ≡ record { start = size - length left; text = left; next = size }
    ∷ []
last_line size left within lacks =
    let at : size - length left + length left ≡ size = omega arith in
    ap (script_lines_from (size - length left)) (pieces_of_one 10 left lacks)
    ∙ ap (λ n. record { start = size - length left; text = left; next = n } ∷ []) at

-- a list that ends in its last element
ends_in_last : (xs : List ℕ) → 0 < length xs
    → xs ≡ take (length xs - 1) xs ++ get_or xs (length xs - 1) 0 ∷ []
ends_in_last xs some =
    let more : take (length xs - 1 + 1) xs ≡ take (length xs - 1) xs
    ++ get_or xs (length xs - 1) 0
    ∷ [] =
    take_more xs (length xs - 1) 0 (omega arith) in
    let whole : length xs - 1 + 1 ≡ length xs = omega arith in
    sym (take_all (length xs) xs (omega arith)) ∙ ap (λ n. take n xs) (sym whole) ∙ more

-- a text with a carriage return at its end
pub return_dropped : (text front : List ℕ) → text ≡ front ++ 13 ∷ []
    → front ≡ strip_carriage_return text
return_dropped text front is =
    let long : length text ≡ length front + 1 = ap length is ∙ length_push front 13 in
    let short : length text - 1 ≡ length front = omega arith in
    let last : get_or text (length text - 1) 0 ≡ 13 = ap (λ t. get_or t (length text - 1) 0) is
    ∙ get_or_push front 13 0 (length text - 1) (sym short) in
    let accepted : take (length text - 1) text ≡ front =
    ap (λ n. take n text) short ∙ ap (take (length front)) is
    ∙ take_at front (13 ∷ []) (length front) refl in
    sym (ap (λ (b : ℕ). if b == 13 then take (length text - 1) text else text) last ∙ accepted)

-- a text without one
pub no_carriage_return : (text : List ℕ) → ((front : List ℕ) → text ≢ front ++ 13 ∷ [])
    → text ≡ strip_carriage_return text
no_carriage_return [] none = refl
no_carriage_return (x ∷ xs) none =
    let others : get_or (x ∷ xs) (length (x ∷ xs) - 1) 0 ≢ 13 =
    λ is. none (take (length (x ∷ xs) - 1) (x ∷ xs))
    (ends_in_last (x ∷ xs) (omega arith)
    ∙ ap (λ b. take (length (x ∷ xs) - 1) (x ∷ xs) ++ b ∷ []) is) in
    let tested : (get_or (x ∷ xs) (length (x ∷ xs) - 1) 0 == 13) ≡ false =
    grind (arith, nat_tests) in
    sym (ap (λ b. if b then take (length (x ∷ xs) - 1) (x ∷ xs) else (x ∷ xs)) tested)

-- what follows the first of two parts, and the one element between them
pub past_one : (c : ℕ) (xs ys : List ℕ) → drop (length xs + 1) (xs ++ c ∷ ys) ≡ ys
past_one c xs ys =
    sym (drop-drop 1 (length xs) (xs ++ c ∷ ys))
    ∙ ap (drop 1) (drop_at xs (c ∷ ys) (length xs) refl)

-- what is left of an input after the newline that ends a piece
pub left_after : (input : List ℕ) (start : ℕ) (piece rest : List ℕ)
    → drop start input ≡ piece ++ 10 ∷ rest → drop (start + length piece + 1) input ≡ rest
left_after input start piece rest is =
    let at : start + length piece + 1 ≡ start + (length piece + 1) = omega arith in
    ap (λ n. drop n input) at ∙ sym (drop-drop (length piece + 1) start input)
    ∙ ap (drop (length piece + 1)) is ∙ past_one 10 piece rest
