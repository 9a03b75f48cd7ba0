-- For `outputs_are_utf8`: the rendered texts of lines, and the lines of notes, are texts.
use Rattle.codespan_core.proofs.Std.{◌≡◌, ℕ, zero, suc, ◌+◌, ◌-◌, ◌<◌}
use Rattle.codespan_core.proofs.Std.{◌≤◌, Bool, true, false, ◌&&◌, ◌==◌, cond, List}
use Rattle.codespan_core.proofs.Std.{[], ◌∷◌, ◌++◌, length, take, drop, get_or}
use Rattle.codespan_core.proofs.Std.{encode_utf8_all, refl, sym, ap, ◌∙◌, subst, arith}
use Rattle.codespan_core.proofs.Std.{append_assoc, append-nil, ⊎_elim, encode_utf8}
use Rattle.codespan_core.proofs.Std.{AllByRecursion, slice_split, IsUtf8, IsCharBoundary}
use Rattle.codespan_core.proofs.Std.{cases_Bool, cases_lt, cond_both, nat_tests, take_all}
use Rattle.codespan_core.proofs.Std.{recursion_from_All, IsUtf8-nil}
use Rattle.std.specs.List.{onto_first, suffix_len}
use Rattle.std.specs.Str.{all_scalars}
use Rattle.std.specs.Str.Lines.{lines, lines_of_parts, strip_carriage_return}
use Rattle.std.proofs.Math.Utf8.{scalar}
use Rattle.std.proofs.lemmas.List.{get_or_past}
use Rattle.std.proofs.lemmas.List.Sums.{suffix_len-take_no, suffix_len-take_yes}
use Rattle.std.proofs.lemmas.Str.{IsCharBoundary-before_ascii, IsCharBoundary-end, IsUtf8-append}
use Rattle.std.proofs.lemmas.Str.{IsUtf8-between, IsUtf8-encode, IsUtf8-take, encode_ascii}
use Rattle.std.proofs.lemmas.Str.{inside_one}
use Rattle.codespan_core.specs.FileModel.{FileModel, line_text}
use Rattle.codespan_core.specs.LawfulFiles.{IsLawful}
use Rattle.codespan_output.specs.{text_without_line_end, is_line_end, LaterNoteRow, note_rows}
use Rattle.codespan_output.specs.{note_line_rows}
use Rattle.codespan_output.proofs.Lanes.LineLemmas.{each_map}
use Rattle.codespan_output.proofs.Utf8.Lanes.{RowIsUtf8}
use Rattle.codespan_output.proofs.Utf8.ListElements.{all-append}

-- ---- the texts of drawn lines

-- a prefix of a text, cut at a character boundary, without the line ends at its end
trimmed : (text : List ℕ) → IsUtf8 text → (n : ℕ) → n ≤ length text
    → IsCharBoundary text n
    → IsUtf8 (take (n - suffix_len is_line_end (take n text)) text)
trimmed text u zero h cut =
    subst (λ k. IsUtf8 (take k text))
    (let e : 0 ≡ 0 - suffix_len is_line_end (take 0 text) = omega arith in e) IsUtf8-nil
trimmed text u (suc n) h cut =
    by (is_line_end (get_or text n 0)) refl (trimmed text u n (omega arith))
  where
    by : (b : Bool) → is_line_end (get_or text n 0) ≡ b
        → (IsCharBoundary text n
        → IsUtf8 (take (n - suffix_len is_line_end (take n text)) text))
        → IsUtf8 (take (suc n - suffix_len is_line_end (take (suc n) text)) text)
    by true is again =
        let small : get_or text n 0 < 128 = grind (arith, nat_tests, is) in
        let e : suc n - 1 ≡ n = omega arith in
        let shorter : suffix_len is_line_end (take (suc n) text) ≡ 1
        + suffix_len is_line_end (take n text) =
        suffix_len-take_yes is_line_end text (suc n) 0 (omega arith) h
        (ap (λ k. is_line_end (get_or text k 0)) e ∙ is)
        ∙ ap (λ k. 1 + suffix_len is_line_end (take k text)) e in
        subst (λ k. IsUtf8 (take k text))
        (let e : n - suffix_len is_line_end (take n text) ≡ suc n
        - suffix_len is_line_end (take (suc n) text) = omega arith in e)
        (again (IsCharBoundary-before_ascii text n h small))
    by false is again =
        let e : suc n - 1 ≡ n = omega arith in
        let none : suffix_len is_line_end (take (suc n) text) ≡ 0 =
        suffix_len-take_no is_line_end text (suc n) 0 (omega arith) h
        (ap (λ k. is_line_end (get_or text k 0)) e ∙ is) in
        subst (λ k. IsUtf8 (take k text))
        (let e : suc n ≡ suc n - suffix_len is_line_end (take (suc n) text) = omega arith in e)
        (IsUtf8-take text (suc n) u cut)

-- the text of a line as it is rendered is UTF-8
pub drawn-utf8 : (text : List ℕ) → IsUtf8 text → IsUtf8 (text_without_line_end text)
drawn-utf8 text u =
    subst (λ xs. IsUtf8 (take (length text - suffix_len is_line_end xs) text))
    (take_all (length text) text (omega arith))
    (trimmed text u (length text) (omega arith) (IsCharBoundary-end text))

-- the text of a line is UTF-8
pub line-utf8 : (f : FileModel) → IsLawful f → (l : ℕ) → IsUtf8 (line_text f l)
line-utf8 f law l =
    ⊎_elim
    (λ (h : l < length f.starts). IsUtf8-between f.text (get_or f.starts l 0) (get_or f.ends l 0)
    law.is_utf8 (law.ends_after_start l h) (law.starts_on_boundaries l h)
    (law.ends_on_boundaries l h))
    (λ (h : length f.starts ≤ l). subst
    (λ k. IsUtf8 (take (k - get_or f.starts l 0) (drop (get_or f.starts l 0) f.text)))
    (sym (get_or_past f.ends l 0 (omega (arith, law.same_length))))
    (subst (λ k. IsUtf8 (take k (drop (get_or f.starts l 0) f.text)))
    (let e : 0 ≡ 0 - get_or f.starts l 0 = omega arith in e) IsUtf8-nil))
    (cases_lt l (length f.starts))

-- ---- the lines of a note

-- the byte is a line feed
abbrev is_line_feed : ℕ → Bool
is_line_feed b = b == 10

-- the parts are texts, the first one after these bytes
abbrev PartsAreUtf8After : List ℕ → List (List ℕ) → Type 0
PartsAreUtf8After pre [] = IsUtf8 pre
PartsAreUtf8After pre (x ∷ parts) = IsUtf8 (pre ++ x) × AllByRecursion IsUtf8 parts

-- a byte before the first part counts among the bytes before it
after-onto : (pre : List ℕ) (b : ℕ) (parts : List (List ℕ))
    → PartsAreUtf8After (pre ++ b ∷ []) parts → PartsAreUtf8After pre (onto_first b parts)
after-onto pre b [] h = (h, tt)
after-onto pre b (x ∷ parts) h = (subst IsUtf8 (append_assoc pre (b ∷ []) x) h.0, h.1)

-- bytes that are not line feeds
after-bytes : (pre xs rest : List ℕ) → AllByRecursion (λ b. is_line_feed b ≡ false) xs
    → PartsAreUtf8After (pre ++ xs) (slice_split is_line_feed rest)
    → PartsAreUtf8After pre (slice_split is_line_feed (xs ++ rest))
after-bytes pre [] rest none h =
    subst (λ p. PartsAreUtf8After p (slice_split is_line_feed rest)) (append-nil pre) h
after-bytes pre (b ∷ xs) rest none h =
    let later : PartsAreUtf8After (pre ++ b ∷ []) (slice_split is_line_feed (xs ++ rest)) =
    after-bytes (pre ++ b ∷ []) xs rest none.1
    (subst (λ p. PartsAreUtf8After p (slice_split is_line_feed rest))
    (sym (append_assoc pre (b ∷ []) xs)) h) in
    subst
    (λ t. PartsAreUtf8After pre
    (cond t ([] ∷ slice_split is_line_feed (xs ++ rest))
    (onto_first b (slice_split is_line_feed (xs ++ rest)))))
    (sym none.0)
    (after-onto pre b (slice_split is_line_feed (xs ++ rest)) later)

-- no byte of another character is a line feed
no-line_feed : (c : ℕ) → (c == 10) ≡ false
    → AllByRecursion (λ b. is_line_feed b ≡ false) (encode_utf8 c)
no-line_feed c other =
    recursion_from_All (λ b. is_line_feed b ≡ false) (encode_utf8 c) (λ k d h.
    let same : get_or (encode_utf8 c) k 0 ≡ get_or (encode_utf8 c) k d =
    get_or_same (encode_utf8 c) k 0 d h in
    ⊎_elim
    (λ (t : is_line_feed (get_or (encode_utf8 c) k d) ≡ true).
    let ten : get_or (encode_utf8 c) k d ≡ 10 = grind (arith, nat_tests, t) in
    let is : c ≡ get_or (encode_utf8 c) k 0 =
    inside_one c [] (encode_utf8 c) k (sym (append-nil (encode_utf8 c))) h
    (omega (arith, same, ten)) in
    absurd (grind (arith, nat_tests, other, is, same, ten)))
    (λ (t : is_line_feed (get_or (encode_utf8 c) k d) ≡ false). t)
    (cases_Bool (is_line_feed (get_or (encode_utf8 c) k d))))
  where
    get_or_same : (xs : List ℕ) (k d e : ℕ) → k < length xs
        → get_or xs k d ≡ get_or xs k e
    get_or_same [] k d e h = absurd (omega arith)
    get_or_same (x ∷ xs) zero d e h = refl
    get_or_same (x ∷ xs) (suc k) d e h = get_or_same xs k d e (omega arith)

and_true : (a b : Bool) → (a && b) ≡ true → (a ≡ true) × (b ≡ true)
and_true true b e = (refl, e)
and_true false b e = absurd (cc)

-- the parts of a text between its line feeds are texts
all-after : (parts : List (List ℕ)) → PartsAreUtf8After [] parts → AllByRecursion IsUtf8 parts
all-after [] h = tt
all-after (x ∷ parts) h = h

split-after : (cs : List ℕ) → all_scalars cs ≡ true → (pre : List ℕ) → IsUtf8 pre
    → PartsAreUtf8After pre (slice_split is_line_feed (encode_utf8_all cs))
split-after [] e pre u = (subst IsUtf8 (sym (append-nil pre)) u, tt)
split-after (c ∷ cs) e pre u =
    let both = and_true (scalar c) (all_scalars cs) e in
    ⊎_elim
    (λ (t : (c == 10) ≡ true).
    let ten : c ≡ 10 = grind (arith, nat_tests, t) in
    let one : encode_utf8 c ≡ 10 ∷ [] = ap encode_utf8 ten ∙ encode_ascii 10 (omega arith) in
    subst (λ bs. PartsAreUtf8After pre (slice_split is_line_feed (bs ++ encode_utf8_all cs)))
    (sym one) (
      subst IsUtf8 (sym (append-nil pre)) u,
      all-after
          (slice_split is_line_feed (encode_utf8_all cs)) (split-after cs both.1 [] IsUtf8-nil),
    ))
    (λ (t : (c == 10) ≡ false).
    after-bytes pre (encode_utf8 c) (encode_utf8_all cs) (no-line_feed c t)
    (split-after cs both.1 (pre ++ encode_utf8 c)
    (IsUtf8-append pre (encode_utf8 c) u (IsUtf8-encode c both.0))))
    (cases_Bool (c == 10))

split-utf8 : (bs : List ℕ) → IsUtf8 bs → AllByRecursion IsUtf8 (slice_split is_line_feed bs)
split-utf8 bs u =
    subst (λ xs. AllByRecursion IsUtf8 (slice_split is_line_feed xs)) u.1.1
    (all-after (slice_split is_line_feed (encode_utf8_all u.0))
    (split-after u.0 u.1.0 [] IsUtf8-nil))

-- a line without its carriage return is a text
strip-utf8 : (l : List ℕ) → IsUtf8 l → IsUtf8 (strip_carriage_return l)
strip-utf8 [] u = IsUtf8-nil
strip-utf8 (x ∷ xs) u =
    let l : List ℕ = x ∷ xs in
    cond_both (get_or l (length l - 1) 0 == 13) (take (length l - 1) l) l IsUtf8
    (λ t. IsUtf8-take l (length l - 1) u
    (IsCharBoundary-before_ascii l (length l - 1) (omega arith) (grind (arith, nat_tests, t))))
    (λ _. u)

parts-utf8 : (parts : List (List ℕ)) → AllByRecursion IsUtf8 parts
    → AllByRecursion IsUtf8 (lines_of_parts parts)
parts-utf8 [] h = tt
parts-utf8 (x ∷ []) h =
    cond_both (length x == 0) [] (x ∷ []) (AllByRecursion IsUtf8) (λ _. tt) (λ _. h)
parts-utf8 (x ∷ y ∷ more) h = (strip-utf8 x h.0, parts-utf8 (y ∷ more) h.1)

lines-utf8 : (bs : List ℕ) → IsUtf8 bs → AllByRecursion IsUtf8 (lines bs)
lines-utf8 bs u = parts-utf8 (slice_split is_line_feed bs) (split-utf8 bs u)

-- ---- notes

rows-note_line : (note_lines : List (List ℕ)) → AllByRecursion IsUtf8 note_lines
    → AllByRecursion RowIsUtf8 (note_line_rows note_lines)
rows-note_line [] h = tt
rows-note_line (p ∷ ps) h = (h.0, each_map RowIsUtf8 LaterNoteRow ps h.1)

pub rows-notes : (notes : List (List ℕ)) → AllByRecursion IsUtf8 notes
    → AllByRecursion RowIsUtf8 (note_rows notes)
rows-notes [] h = tt
rows-notes (note ∷ notes) h =
    all-append RowIsUtf8 (note_line_rows (lines note)) (note_rows notes)
    (rows-note_line (lines note) (lines-utf8 note h.0)) (rows-notes notes h.1)
