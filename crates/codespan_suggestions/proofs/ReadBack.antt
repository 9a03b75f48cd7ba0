-- Fix-its that are written the same, for the clause of `fix_its_read_back`.
use Rattle.codespan_core.proofs.Std.{◌≡◌, ℕ, ◌+◌, ◌-◌, ◌*◌, ◌/◌, ◌%◌}
use Rattle.codespan_core.proofs.Std.{◌^◌, ◌<◌, ◌≤◌, ◌==◌, Bool, true, false}
use Rattle.codespan_core.proofs.Std.{if◌then◌else◌, List, [], ◌∷◌, ◌++◌, length}
use Rattle.codespan_core.proofs.Std.{drop, nat_le, ◌&&◌, refl, sym, ap, ap₂, ◌∙◌, arith}
use Rattle.codespan_core.proofs.Std.{append_assoc, codes, decimal, AllByRecursion}
use Rattle.codespan_core.proofs.Std.{recursion_from_All, nat_tests, None}
use Rattle.std.specs.Prelude.{slice_index}
use Rattle.codespan_core.specs.LawfulFiles.{IsLawful}
use Rattle.std.proofs.lemmas.Fmt.{decimal_injective, decimal_by_steps}
use Rattle.std.specs.Str.{IsUtf8}
use Rattle.codespan_core.specs.FileModel.{line_of}
use Rattle.codespan_core.specs.Lines.{line_starts_of}
use Rattle.codespan_core.specs.Lemmas.Lines.{line_of_below, lines_within_text}
use Rattle.codespan_core.specs.Lemmas.Simple.{simple_lawful}
use Rattle.codespan_core.specs.SimpleModel.{simple_file}
use Rattle.codespan_lsp.proofs.LineLemmas.{line_of-start}
use Rattle.codespan_edits.specs.Edits.{TextEdit}
use Rattle.codespan_suggestions.specs.Escapes.{octal_escape, escaped_byte, escaped, quoted}
use Rattle.codespan_suggestions.specs.FixIts.{position_text, fix_it}
use Rattle.codespan_suggestions.specs.LineColumns.{line_number, byte_column}
use Rattle.codespan_suggestions.specs.WrittenLaws.{AreBytes, FixItsReadBack}

-- ---- texts between quotation marks

-- what three octal digits stand for
abbrev digits-read : ℕ → List ℕ → ℕ × List ℕ
digits-read c [] = (0, [])
digits-read c (d ∷ []) = (0, [])
digits-read c (d ∷ (e ∷ rest)) = ((c - 48) * 64 + (d - 48) * 8 + (e - 48), rest)

-- what stands after a backslash
abbrev escape-read : List ℕ → ℕ × List ℕ
escape-read [] = (0, [])
escape-read (c ∷ rest) =
    if c == 92 then (92, rest) else if c == 34 then (34, rest)
    else if c == 116 then (9, rest) else if c == 110 then (10, rest)
    else digits-read c rest

-- the byte that a text stands for, and what follows
abbrev byte-read : List ℕ → ℕ × List ℕ
byte-read [] = (0, [])
byte-read (c ∷ rest) = if c == 92 then escape-read rest else (c, rest)

-- a byte reads back
byte-back : (b : ℕ) (rest : List ℕ) → b < 256
    → byte-read (escaped_byte b ++ rest) ≡ (b, rest)
byte-back b rest few =
    by (b == 92) (b == 34) (b == 9) (b == 10) (nat_le 32 b && nat_le b 126) refl refl refl refl
  where
    by : (s q t n p : Bool) → (b == 92) ≡ s → (b == 34) ≡ q → (b == 9) ≡ t
        → (b == 10) ≡ n
        → byte-read
        ((if s then codes "\\\\" else if q then codes "\\\"" else if t then codes "\\t"
        else if n then codes "\\n" else if p then b ∷ [] else octal_escape b) ++ rest)
        ≡ (b, rest)
    by true q t n p hs hq ht hn =
        let is : b ≡ 92 = grind (arith, nat_tests, hs) in ap (λ (x : ℕ). (x, rest)) (sym is)
    by false true t n p hs hq ht hn =
        let is : b ≡ 34 = grind (arith, nat_tests, hq) in ap (λ (x : ℕ). (x, rest)) (sym is)
    by false false true n p hs hq ht hn =
        let is : b ≡ 9 = grind (arith, nat_tests, ht) in ap (λ (x : ℕ). (x, rest)) (sym is)
    by false false false true p hs hq ht hn =
        let is : b ≡ 10 = grind (arith, nat_tests, hn) in ap (λ (x : ℕ). (x, rest)) (sym is)
    by false false false false true hs hq ht hn = rw hs refl
    by false false false false false hs hq ht hn =
        let c = 48 + b / 64 in
        let no1 : (c == 92) ≡ false = grind (arith, nat_tests, few) in
        let no2 : (c == 34) ≡ false = grind (arith, nat_tests, few) in
        let no3 : (c == 116) ≡ false = grind (arith, nat_tests, few) in
        let no4 : (c == 110) ≡ false = grind (arith, nat_tests, few) in
        let is : (48 + b / 64 - 48) * 64 + (48 + b / 8 % 8 - 48) * 8 + (48 + b % 8 - 48) ≡ b =
        omega arith in
        rw (no1, no2, no3, no4) (ap (λ (x : ℕ). (x, rest)) is)

-- no byte is written as a quotation mark
no-quote : (b : ℕ) (rest after : List ℕ) → 34 ∷ after ≡ escaped_byte b ++ rest → ⊥
no-quote b rest after is =
    by (b == 92) (b == 34) (b == 9) (b == 10) (nat_le 32 b && nat_le b 126) refl is
  where
    by : (s q t n p : Bool) → (b == 34) ≡ q
        → 34 ∷ after
        ≡ (if s then codes "\\\\" else if q then codes "\\\"" else if t then codes "\\t"
        else if n then codes "\\n" else if p then b ∷ [] else octal_escape b) ++ rest → ⊥
    by true q t n p hq h = let ne : ◌≡◌ {A = ℕ} 34 92 = cc (h) in absurd (omega (arith, ne))
    by false true t n p hq h = let ne : ◌≡◌ {A = ℕ} 34 92 = cc (h) in absurd
        (omega (arith, ne))
    by false false true n p hq h = let ne : ◌≡◌ {A = ℕ} 34 92 = cc (h) in absurd
        (omega (arith, ne))
    by false false false true p hq h = let ne : ◌≡◌ {A = ℕ} 34 92 = cc (h) in absurd
        (omega (arith, ne))
    by false false false false true hq h =
        let ne : ◌≡◌ {A = ℕ} 34 b = cc (h) in absurd (grind (arith, nat_tests, ne, hq))
    by false false false false false hq h =
        let ne : ◌≡◌ {A = ℕ} 34 92 = cc (h) in absurd (omega (arith, ne))

-- texts before a quotation mark that are written the same are the same
escaped-same : (s t a b : List ℕ) → AllByRecursion (λ c. c < 256) s
    → AllByRecursion (λ c. c < 256) t → escaped s ++ 34 ∷ a ≡ escaped t ++ 34 ∷ b
    → (s ≡ t) × (a ≡ b)
escaped-same [] [] a b hs ht is = (refl, cc (is))
escaped-same [] (c ∷ t) a b hs ht is =
    absurd (no-quote c (escaped t ++ 34 ∷ b) a
    (is ∙ append_assoc (escaped_byte c) (escaped t) (34 ∷ b)))
escaped-same (c ∷ s) [] a b hs ht is =
    absurd (no-quote c (escaped s ++ 34 ∷ a) b
    (sym is ∙ append_assoc (escaped_byte c) (escaped s) (34 ∷ a)))
escaped-same (c ∷ s) (d ∷ t) a b hs ht is =
    let left : byte-read (escaped (c ∷ s) ++ 34 ∷ a) ≡ (c, escaped s ++ 34 ∷ a) =
    ap byte-read (append_assoc (escaped_byte c) (escaped s) (34 ∷ a))
    ∙ byte-back c (escaped s ++ 34 ∷ a) hs.0 in
    let right : byte-read (escaped (d ∷ t) ++ 34 ∷ b) ≡ (d, escaped t ++ 34 ∷ b) =
    ap byte-read (append_assoc (escaped_byte d) (escaped t) (34 ∷ b))
    ∙ byte-back d (escaped t ++ 34 ∷ b) ht.0 in
    let both : ◌≡◌ {A = ℕ × List ℕ} (c, escaped s ++ 34 ∷ a)
    (d, escaped t ++ 34 ∷ b) =
    sym left ∙ (ap byte-read is ∙ right) in
    let more = escaped-same s t a b hs.1 ht.1 (ap (λ (x : ℕ × List ℕ). x.1) both) in (
      ap₂ (λ (x : ℕ) (xs : List ℕ). x ∷ xs) (ap (λ (x : ℕ × List ℕ). x.0) both)
          more.0,
      more.1,
    )

-- quoted texts that are written the same, whatever follows them, are the same
quoted-same : (s t a b : List ℕ) → AreBytes s → AreBytes t → quoted s ++ a ≡ quoted t ++ b
    → (s ≡ t) × (a ≡ b)
quoted-same s t a b hs ht is =
    escaped-same s t a b (recursion_from_All (λ c. c < 256) s hs)
    (recursion_from_All (λ c. c < 256) t ht)
    (sym (append_assoc (escaped s) (34 ∷ []) a) ∙ ap (drop 1) is
    ∙ append_assoc (escaped t) (34 ∷ []) b)

-- ---- numbers and positions

-- a digit, and a byte that is none
abbrev IsDigit : ℕ → Type 0
IsDigit d = (48 ≤ d) × (d < 58)

abbrev IsNoDigit : ℕ → Type 0
IsNoDigit k = (d : ℕ) → IsDigit d → d ≡ k → ⊥

-- a number has digits
more-digits : (xs : List ℕ) (y : ℕ) → AllByRecursion IsDigit xs → IsDigit y
    → AllByRecursion IsDigit (xs ++ y ∷ [])
more-digits [] y all one = (one, tt)
more-digits (x ∷ xs) y all one = (all.0, more-digits xs y all.1 one)

has-digits : (n : ℕ) → n < 2 ^ 64 → AllByRecursion IsDigit (decimal n)
has-digits =
    decimal_by_steps (λ n ds. AllByRecursion IsDigit ds)
    (λ n h. ((omega arith, omega (arith, h)), tt))
    (λ n ds h all. more-digits ds (48 + n % 10) all (omega arith, omega arith))

digits-same : (k : ℕ) (ds es a b : List ℕ) → IsNoDigit k → AllByRecursion IsDigit ds
    → AllByRecursion IsDigit es → ds ++ k ∷ a ≡ es ++ k ∷ b → (ds ≡ es) × (a ≡ b)
digits-same k [] [] a b apart hd he is = (refl, cc (is))
digits-same k [] (e ∷ es) a b apart hd he is = absurd (apart e he.0 (cc (is)))
digits-same k (d ∷ ds) [] a b apart hd he is = absurd (apart d hd.0 (cc (is)))
digits-same k (d ∷ ds) (e ∷ es) a b apart hd he is =
    let first : d ≡ e = cc (is) in
    let later : ds ++ k ∷ a ≡ es ++ k ∷ b = cc (is) in
    let more = digits-same k ds es a b apart hd.1 he.1 later in
    (ap₂ (λ (x : ℕ) (xs : List ℕ). x ∷ xs) first more.0, more.1)

number-same : (k m n : ℕ) (a b : List ℕ) → IsNoDigit k → m < 2 ^ 64 → n < 2 ^ 64
    → decimal m ++ k ∷ a ≡ decimal n ++ k ∷ b → (m ≡ n) × (a ≡ b)
number-same k m n a b apart few less is =
    let same = digits-same k (decimal m) (decimal n) a b apart (has-digits m few)
    (has-digits n less) is in
    (decimal_injective m n few less same.0, same.1)

module _ (text : List ℕ) (utf8 : IsUtf8 text) (short : length text + 1 < 2 ^ 64) where
  lawful : IsLawful (simple_file None text)
  lawful = simple_lawful None text utf8 (omega (arith, short))

  -- the start of a byte's line
  abbrev line-start : ℕ → ℕ
  line-start byte = slice_index (line_starts_of text) (line_of (line_starts_of text) byte)

  start-before : (byte : ℕ) → line-start byte ≤ byte
  start-before byte = line_of-start (simple_file None text) lawful byte

  -- numbers of lines and columns are not great
  few-lines : (byte : ℕ) → line_number text byte < 2 ^ 64
  few-lines byte =
      omega (
        arith,
        short,
        line_of_below (line_starts_of text) byte (omega arith),
        lines_within_text (simple_file None text) lawful,
      )

  few-columns : (byte : ℕ) → byte ≤ length text → byte_column text byte < 2 ^ 64
  few-columns byte inside = omega (arith, short, inside)

  -- bytes with the same line and column are the same
  same-byte : (p q : ℕ) → line_number text p ≡ line_number text q
      → byte_column text p ≡ byte_column text q → p ≡ q
  same-byte p q line column =
      let i : line_of (line_starts_of text) p ≡ line_of (line_starts_of text) q =
      omega (arith, line) in
      let s : line-start p ≡ line-start q = ap (slice_index (line_starts_of text)) i in
      omega (arith, s, column, start-before p, start-before q)

  -- positions that are written the same are the same
  position-same : (k p q : ℕ) (a b : List ℕ) → IsNoDigit k → p ≤ length text
      → q ≤ length text
      → position_text text p ++ k ∷ a ≡ position_text text q ++ k ∷ b
      → (p ≡ q) × (a ≡ b)
  position-same k p q a b apart inside within is =
      let split = λ (byte : ℕ) (rest : List ℕ).
      append_assoc (decimal (line_number text byte))
      (58 ∷ decimal (byte_column text byte)) rest in
      let lines = number-same 58 (line_number text p) (line_number text q) _ _
      (λ d h e. omega (arith, h.1, e)) (few-lines p) (few-lines q)
      (sym (split p (k ∷ a)) ∙ is ∙ split q (k ∷ b)) in
      let columns = number-same k (byte_column text p) (byte_column text q) a b apart
      (few-columns p inside) (few-columns q within) lines.1 in
      (same-byte p q lines.0 columns.0, columns.1)

-- ---- lines

-- edits with the same fields are the same
same-edit : (a b c d : ℕ) (r s : List ℕ) → a ≡ b → c ≡ d → r ≡ s
    → ◌≡◌ {A = TextEdit} (record { start = a; end = c; replacement = r })
    (record { start = b; end = d; replacement = s })
same-edit a b c d r s p q h = rw (p, q, h) refl

-- a fix-it and what follows it, part by part
parts : (text name : List ℕ) (e : TextEdit) (after : List ℕ)
    → fix_it name text e ++ after
    ≡ codes "fix-it:" ++ (quoted name ++ (58 ∷ (123 ∷ (position_text text e.start
    ++ (45 ∷ (position_text text e.end ++ (125 ∷ (58 ∷ (quoted e.replacement
    ++ (10 ∷ after))))))))))
parts text name e after = simp append_assoc

pub fix-its-read-back : FixItsReadBack
fix-its-read-back text utf8 short name other hn ho e f he hf after behind is =
    let whole = sym (parts text name e after) ∙ is ∙ parts text other f behind in
    let names = quoted-same name other _ _ hn ho (ap (drop 7) whole) in
    let starts = position-same text utf8 short 45 e.start f.start _ _
    (λ d h apart. omega (arith, h.0, apart)) he.start hf.start (ap (drop 2) names.1) in
    let ends = position-same text utf8 short 125 e.end f.end _ _
    (λ d h apart. omega (arith, h.1, apart)) he.end hf.end starts.1 in
    let texts = quoted-same e.replacement f.replacement _ _ he.replacement hf.replacement
    (ap (drop 1) ends.1) in
    record {
      name_is = names.0;
      edit_is =
          same-edit e.start f.start e.end f.end e.replacement f.replacement starts.0 ends.0
          texts.0;
      rest_is = ap (drop 1) texts.1;
    }
