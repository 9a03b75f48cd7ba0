-- For the loops over the characters of a text: a step from one character to the next.
use Rattle.codespan_core.proofs.Std.{◌≡◌, ℕ, ◌+◌, ◌-◌, ◌<◌, ◌≤◌, List, []}
use Rattle.codespan_core.proofs.Std.{◌∷◌, ◌++◌, length, take, drop, get_or, refl, ap}
use Rattle.codespan_core.proofs.Std.{ap₂, sym, ◌∙◌, subst, arith, length-append, append-nil}
use Rattle.codespan_core.proofs.Std.{append_assoc, take-append-drop, take-append_seam, take-length}
use Rattle.codespan_core.proofs.Std.{length-encode, IsScalar, len_utf8, encode_utf8}
use Rattle.codespan_core.proofs.Std.{encode_utf8_all, IsUtf8, chars, IsCharBoundary}
use Rattle.std.proofs.lemmas.Str.{IsUtf8-past_char, drop_past_char, IsCharBoundary-from_drop}
use Rattle.std.proofs.lemmas.Str.{IsCharBoundary-at_seam, IsUtf8-take}
use Rattle.std.proofs.lemmas.Str.{IsUtf8-encode, IsCharBoundary-after_ascii, chars_past_char}
use Rattle.std.proofs.lemmas.Str.{chars-nil, chars-append, encodes-chars}
use Rattle.codespan_fitting.specs.Walks.{IsAhead, IsBehind, char_bytes}

-- a step over one character
pub ahead-step : (text rest next : List ℕ) (at c : ℕ) → IsAhead text at rest
    → rest ≡ encode_utf8 c ++ next → IsAhead text (at + len_utf8 c) next
ahead-step text rest next at c h e =
    record {
      utf8 = IsUtf8-past_char rest next c h.utf8 e;
      rest_is = drop_past_char text next at c (h.rest_is ∙ e);
      within =
          omega (arith, h.within, ap length e, length-append (encode_utf8 c) next, length-encode c);
    }

-- a text may be cut there
pub ahead-boundary : (text rest : List ℕ) (at : ℕ) → IsAhead text at rest
    → IsCharBoundary text at
ahead-boundary text rest at h =
    IsCharBoundary-from_drop text at (omega (arith, h.within)) (subst IsUtf8 (sym h.rest_is) h.utf8)

-- after ASCII a text may be cut
pub plain-boundary : (text : List ℕ) (at : ℕ) → IsUtf8 text → 0 < at
    → ((k : ℕ) → k < at → get_or text k 0 < 128) → at ≤ length text
    → IsCharBoundary text at
plain-boundary text at u some ascii within =
    let last : at - 1 + 1 ≡ at = omega (arith, some) in
    subst (IsCharBoundary text) last
    (IsCharBoundary-after_ascii text (at - 1) u (omega (arith, some, within))
    (ascii (at - 1) (omega (arith, some))))

-- the whole text is behind at its end
pub behind-end : (text : List ℕ) → IsUtf8 text → IsBehind text (length text) text
behind-end text u =
    record { utf8 = u; before_is = take-length text; length_is = refl; within = omega arith }

-- the characters of a text before its last one
pub chars-before : (before next : List ℕ) (c : ℕ) → IsUtf8 before → IsScalar c
    → before ≡ next ++ encode_utf8 c
    → IsUtf8 next × (chars before ≡ chars next ++ c ∷ [])
chars-before before next c u s e =
    let seam = IsCharBoundary-at_seam before next (encode_utf8 c) e (IsUtf8-encode c s) in
    let front : take (length next) before ≡ next =
    ap (take (length next)) e ∙ take-append_seam next (encode_utf8 c) in
    let utf8 : IsUtf8 next = subst IsUtf8 front (IsUtf8-take before (length next) u seam) in
    let one : chars (encode_utf8 c) ≡ c ∷ [] =
    chars_past_char (encode_utf8 c) [] c (IsUtf8-encode c s) (sym (append-nil (encode_utf8 c)))
    ∙ ap (λ cs. c ∷ cs) chars-nil in (
      utf8,
      ap chars e ∙ chars-append next (encode_utf8 c) utf8
          ∙ ap (λ cs. chars next ++ cs) one,
    )

-- a step over one character, back
pub behind-step : (text before next : List ℕ) (at c : ℕ) → IsBehind text at before
    → IsScalar c
    → before ≡ next ++ encode_utf8 c → IsBehind text (at - len_utf8 c) next
behind-step text before next at c h s e =
    let size = ap length e in
    let sum = length-append next (encode_utf8 c) in
    let n : length next ≡ at - len_utf8 c =
    omega (arith, size, sum, length-encode c, h.length_is) in
    let split : take at text ≡ next ++ encode_utf8 c = h.before_is ∙ e in
    let all : text ≡ next ++ (encode_utf8 c ++ drop at text) =
    sym (take-append-drop at text)
    ∙ ap (λ xs. xs ++ drop at text) split
    ∙ append_assoc next (encode_utf8 c) (drop at text) in
    record {
      utf8 = (chars-before before next c h.utf8 s e).0;
      before_is =
          ap (λ k. take k text) (sym n)
          ∙ ap (take (length next)) all
          ∙ take-append_seam next (encode_utf8 c ++ drop at text);
      length_is = n;
      within = omega (arith, h.within);
    }

-- the bytes of the characters of a text
pub encoded-bytes : (cs : List ℕ) → length (encode_utf8_all cs) ≡ char_bytes cs
encoded-bytes [] = refl
encoded-bytes (c ∷ cs) =
    length-append (encode_utf8 c) (encode_utf8_all cs)
    ∙ ap₂ (λ m n. m + n) (length-encode c) (encoded-bytes cs)

pub text-bytes : (text : List ℕ) → IsUtf8 text → char_bytes (chars text) ≡ length text
text-bytes text u = sym (encoded-bytes (chars text)) ∙ ap length (encodes-chars text u)
