-- For the clauses of `drawn_text`, `padding_width` and `least_start`: loops over bytes, files and
-- edits.
use Rattle.codespan_core.proofs.Std.{◌≡◌, ◌<◌, ◌≤◌, ◌+◌, ◌++◌, ◌∷◌}
use Rattle.codespan_core.proofs.Std.{◌∙◌, [], ℕ, List, refl, ap, sym, length, get_or, drop}
use Rattle.codespan_core.proofs.Std.{take, map, flat_map, fold, max, min, take_more, map-append}
use Rattle.codespan_core.proofs.Std.{flat_map-append, cond, fold-append, append-nil, append_assoc}
use Rattle.codespan_core.proofs.Std.{Bool, true, false, ◌==◌, drop_more, take_all, cases_lt}
use Rattle.codespan_core.proofs.Std.{inl, inr, arith, if◌then◌else◌}
use Rattle.codespan_core.specs.Lines.{begins_char}
use Rattle.codespan_core.specs.declared.files.Location.{Location}
use Rattle.codespan_edits.specs.Diffs.{lines, byte_before}
use Rattle.codespan_suggestions.specs.DrawnText.{first_line, location_after, location_past}
use Rattle.codespan_suggestions.specs.DrawnText.{location_in}

-- ---- the first line

before_first : (b : ℕ) (ls : List (List ℕ))
    → first_line (byte_before b ls) ≡ b ∷ first_line ls
before_first b [] = refl
before_first b (l ∷ ls) = refl

-- a byte that is no newline is in the first line
pub first-more : (text : List ℕ) (i b : ℕ) → i < length text → b ≡ get_or text i b
    → (b == 10) ≡ false
    → take i text ++ first_line (lines (drop i text))
    ≡ take (i + 1) text ++ first_line (lines (drop (i + 1) text))
first-more text i b inside is other =
    let rest = drop (i + 1) text in
    let here : drop i text ≡ b ∷ rest =
    drop_more text i b inside ∙ ap (λ x. x ∷ rest) (sym is) in
    let step : first_line (lines (b ∷ rest)) ≡ b ∷ first_line (lines rest) =
    ap (λ t. first_line (cond t ((b ∷ []) ∷ lines rest) (byte_before b (lines rest)))) other
    ∙ before_first b (lines rest) in
    ap (λ xs. take i text ++ first_line (lines xs)) here
    ∙ (ap (λ xs. take i text ++ xs) step
    ∙ (sym (append_assoc (take i text) (b ∷ []) (first_line (lines rest)))
    ∙ ap (λ xs. xs ++ first_line (lines rest))
    (sym (take_more text i b inside ∙ ap (λ x. take i text ++ x ∷ []) (sym is)))))

-- a newline ends it
pub first-end : (text : List ℕ) (i b : ℕ) → i < length text → b ≡ get_or text i b
    → (b == 10) ≡ true
    → take i text ++ first_line (lines (drop i text)) ≡ take (i + 1) text
first-end text i b inside is newline =
    let rest = drop (i + 1) text in
    let here : drop i text ≡ b ∷ rest =
    drop_more text i b inside ∙ ap (λ x. x ∷ rest) (sym is) in
    let step : first_line (lines (b ∷ rest)) ≡ b ∷ [] =
    ap (λ t. first_line (cond t ((b ∷ []) ∷ lines rest) (byte_before b (lines rest)))) newline
    in
    ap (λ xs. take i text ++ first_line (lines xs)) here
    ∙ (ap (λ xs. take i text ++ xs) step
    ∙ sym (take_more text i b inside ∙ ap (λ x. take i text ++ x ∷ []) (sym is)))

-- ---- locations

-- the location after more bytes
pub past-append : (at : Location) (xs : List ℕ) (b : ℕ)
    → location_past at (xs ++ b ∷ []) ≡ location_after (location_past at xs) b
past-append at [] b = refl
past-append at (x ∷ xs) b = past-append (location_after at x) xs b

-- the location of the next byte
pub location-more : (text : List ℕ) (i b : ℕ) → i < length text → b ≡ get_or text i b
    → location_in text (i + 1) ≡ location_after (location_in text i) b
location-more text i b inside is =
    let start : Location = record { line_number = 1; column_number = 1 } in
    ap (location_past start)
    (take_more text i b inside ∙ ap (λ x. take i text ++ x ∷ []) (sym is))
    ∙ past-append start (take i text) b

-- the location of a byte past the end
pub location-least : (text : List ℕ) (n : ℕ)
    → location_in text (min n (length text)) ≡ location_in text n
location-least text n =
    let start : Location = record { line_number = 1; column_number = 1 } in
    elim (cases_lt n (length text)) [
      | inl inside ↦
          let is : min n (length text) ≡ n = omega (arith, inside) in ap (location_in text) is
      | inr past ↦
          let is : min n (length text) ≡ length text = omega (arith, past) in
          ap (location_past start)
          (ap (λ m. take m text) is
          ∙ (take_all (length text) text (omega arith) ∙ sym (take_all n text past)))
    ]

-- ---- greatest and least numbers

-- one more element of a list of lists of numbers
pub greatest-more : {X Y : Type 0} (a : ℕ) (f : Y → List ℕ) (view : X → Y) (xs : List X)
    (i : ℕ)
    (x : X) → i < length xs → x ≡ get_or xs i x
    → fold max a (flat_map f (map view (take (i + 1) xs)))
    ≡ fold max (fold max a (flat_map f (map view (take i xs)))) (f (view x))
greatest-more a f view xs i x inside is =
    let more : take (i + 1) xs ≡ take i xs ++ x ∷ [] =
    take_more xs i x inside ∙ ap (λ y. take i xs ++ y ∷ []) (sym is) in
    ap (λ ys. fold max a (flat_map f (map view ys))) more
    ∙ (ap (λ ys. fold max a (flat_map f ys)) (map-append view (take i xs) (x ∷ []))
    ∙ (ap (fold max a) (flat_map-append f (map view (take i xs)) (view x ∷ []))
    ∙ (fold-append max a (flat_map f (map view (take i xs))) (f (view x) ++ [])
    ∙ ap (fold max (fold max a (flat_map f (map view (take i xs))))) (append-nil (f (view x))))))

-- one more element of a list
pub least-more : {X : Type 0} (a : ℕ) (f : X → ℕ) (xs : List X) (i : ℕ) (x : X)
    → i < length xs → x ≡ get_or xs i x
    → fold min a (map f (take (i + 1) xs)) ≡ min (fold min a (map f (take i xs))) (f x)
least-more a f xs i x inside is =
    let more : take (i + 1) xs ≡ take i xs ++ x ∷ [] =
    take_more xs i x inside ∙ ap (λ y. take i xs ++ y ∷ []) (sym is) in
    ap (λ ys. fold min a (map f ys)) more
    ∙ (ap (fold min a) (map-append f (take i xs) (x ∷ []))
    ∙ fold-append min a (map f (take i xs)) (f x ∷ []))

-- the numbers of a location grow by one at most
pub line-more : (at : Location) (b : ℕ)
    → (location_after at b).line_number ≤ at.line_number + 1
line-more at b = by (b == 10) (begins_char b) where
  by : (t u : Bool)
      → (if t then record { line_number = at.line_number + 1; column_number = 1 }
      else if u then record at { column_number = at.column_number + 1 } else at).line_number
      ≤ at.line_number + 1
  by true u = omega arith
  by false true = omega arith
  by false false = omega arith

pub column-more : (at : Location) (b n : ℕ) → at.column_number ≤ n → 1 ≤ n + 1
    → (location_after at b).column_number ≤ n + 1
column-more at b n few some = by (b == 10) (begins_char b) where
  by : (t u : Bool)
      → (if t then record { line_number = at.line_number + 1; column_number = 1 }
      else if u then record at { column_number = at.column_number + 1 } else at).column_number
      ≤ n + 1
  by true u = omega arith
  by false true = omega arith
  by false false = omega arith
