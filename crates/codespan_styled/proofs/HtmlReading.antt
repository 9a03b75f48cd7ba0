-- An element reads back as its tags and its text: for the clauses `tokens`, `text` and `columns` of
-- `to_html`.
use Rattle.std.proofs.Common.{◌≡◌, ℕ, ◌+◌, ◌≤◌, ◌/◌, ◌%◌, true, false}
use Rattle.std.proofs.Common.{List, [], ◌∷◌, ◌++◌, map, codes, encode_utf8_all, refl, sym}
use Rattle.std.proofs.Common.{subst, ap, ◌∙◌, append_assoc, append-nil, arith, string_bytes}
use Rattle.std.specs.Prelude.{Bool, ◌==◌, ◌&&◌, nat_lt, if◌then◌else◌}
use Rattle.std.specs.Char.{encode_utf8}
use Rattle.std.specs.List.{AllByRecursion, flat_map}
use Rattle.std.specs.Str.{chars}
use Rattle.std.proofs.lemmas.Bool.{cond_both}
use Rattle.std.proofs.lemmas.Bool.Decides.{nat_tests}
use Rattle.std.proofs.lemmas.Str.{IsUtf8-string_bytes}
use Rattle.codespan_base.specs.declared.diagnostic.LabelStyle.TheVariants.{Primary, Secondary}
use Rattle.codespan_base.specs.declared.diagnostic.Severity.TheVariants.{Bug, Error, Warning, Note}
use Rattle.codespan_base.specs.declared.diagnostic.Severity.TheVariants.{Help}
use Rattle.codespan_base.specs.declared.term.config.style_mark.StyleMark.{StyleMark}
use Rattle.codespan_base.specs.declared.term.config.style_mark.StyleMark.TheVariants.{Header}
use Rattle.codespan_base.specs.declared.term.config.style_mark.StyleMark.TheVariants.{HeaderMessage}
use Rattle.codespan_base.specs.declared.term.config.style_mark.StyleMark.TheVariants.{LineNumber}
use Rattle.codespan_base.specs.declared.term.config.style_mark.StyleMark.TheVariants.{NoteBullet}
use Rattle.codespan_base.specs.declared.term.config.style_mark.StyleMark.TheVariants.{SourceBorder}
use Rattle.codespan_base.specs.declared.term.config.style_mark.StyleMark.TheVariants.{Label, Reset}
use Rattle.codespan_styled.specs.declared.text.Run.{Run}
use Rattle.codespan_styled.specs.Cells.{character_cells}
use Rattle.codespan_styled.specs.Html.{box_class, escaped_text, html_cell, html_character}
use Rattle.codespan_styled.specs.Html.{html_element, html_run, html_span, is_wide, span_tag}
use Rattle.codespan_styled.specs.Html.{span_tag_content, style_class}
use Rattle.codespan_styled.specs.HtmlReading.{InEntity, InTag, InText, Token, Tag, TextByte}
use Rattle.codespan_styled.specs.HtmlReading.{cell_tokens, character_tokens, element_tokens}
use Rattle.codespan_styled.specs.HtmlReading.{read_tokens, tokens_from, run_tokens, span_tokens}
use Rattle.codespan_styled.specs.HtmlReading.{text_of_html, text_of_tokens, text_tokens}
use Rattle.codespan_styled.specs.HtmlReading.{without_newline}
use Rattle.codespan_styled.specs.Runs.{RunView, is_plain, joined, run_characters, run_view}
use Rattle.codespan_styled.specs.SafeText.{AreInColumns, columns, safe_characters, safe_text}
use Rattle.codespan_styled.proofs.Shown.{chars_of_safe_text, joined-characters, joined-utf8}
use Rattle.codespan_styled.proofs.Shown.{safe_text-append, safe_text-nil}
use Rattle.codespan_styled.proofs.UnsafeCells.{columns_stay}

-- ---- bytes of text

-- the byte starts neither a tag nor an entity
abbrev pub IsTextByte : ℕ → Type 0
IsTextByte b = ((b == 60) ≡ false) × ((b == 38) ≡ false)

pub bytes-read : (bs rest : List ℕ) → AllByRecursion IsTextByte bs
    → tokens_from InText (bs ++ rest) ≡ map TextByte bs ++ tokens_from InText rest
bytes-read [] rest h = refl
bytes-read (b ∷ bs) rest h =
    let tag = tokens_from (InTag []) (bs ++ rest) in
    let entity = tokens_from (InEntity []) (bs ++ rest) in
    let text = TextByte b ∷ tokens_from InText (bs ++ rest) in
    ap (λ (t : Bool). if t then tag else if b == 38 then entity else text) h.0.0
    ∙ ap (λ (t : Bool). if t then entity else text) h.0.1
    ∙ ap (λ (tokens : List Token). TextByte b ∷ tokens) (bytes-read bs rest h.1)

-- a byte outside ASCII
outside-ascii : (b : ℕ) → 128 ≤ b → IsTextByte b
outside-ascii b big = (grind (arith, nat_tests), grind (arith, nat_tests))

-- the bytes of any character but the two
pub character-bytes : (c : ℕ) → IsTextByte c → AllByRecursion IsTextByte (encode_utf8 c)
unfolding encode_utf8
character-bytes c h =
    let last : IsTextByte (128 + c % 64) = outside-ascii _ (omega arith) in
    let middle : IsTextByte (128 + c / 64 % 64) = outside-ascii _ (omega arith) in
    let second : IsTextByte (128 + c / 4096 % 64) = outside-ascii _ (omega arith) in
    cond_both (nat_lt c 128) _ _ (AllByRecursion IsTextByte)
    (λ t. (h, tt))
    (λ _. cond_both (nat_lt c 2048) _ _ (AllByRecursion IsTextByte)
    (λ t. (outside-ascii _ (omega arith), (last, tt)))
    (λ _. cond_both (nat_lt c 65536) _ _ (AllByRecursion IsTextByte)
    (λ t. (outside-ascii _ (omega arith), (middle, (last, tt))))
    (λ _. (outside-ascii _ (omega arith), (second, (middle, (last, tt)))))))

-- ---- characters

pub is_code : (c n : ℕ) → (c == n) ≡ true → c ≡ n
is_code c n t = grind (arith, nat_tests)

module _ (c : ℕ) (rest : List ℕ) where
  -- bytes read as the character
  abbrev ReadsAs : List ℕ → Type 0
  ReadsAs bs =
      tokens_from InText (bs ++ rest) ≡ map TextByte (encode_utf8 c) ++ tokens_from InText rest

  -- bytes read as the character of this code
  by_code : (n : ℕ) (bs : List ℕ)
      → tokens_from InText (bs ++ rest) ≡ map TextByte (encode_utf8 n)
      ++ tokens_from InText rest
      → (c == n) ≡ true → ReadsAs bs
  by_code n bs is t =
      subst
      (λ k. tokens_from InText (bs ++ rest) ≡ map TextByte (encode_utf8 k)
      ++ tokens_from InText rest)
      (sym (is_code c n t)) is

  character-read : ReadsAs (html_character c)
  unfolding encode_utf8
  character-read =
      cond_both (c == 38) _ _ ReadsAs (by_code 38 (codes "&amp;") refl)
      (λ amp. cond_both (c == 60) _ _ ReadsAs (by_code 60 (codes "&lt;") refl)
      (λ lt. cond_both (c == 62) _ _ ReadsAs (by_code 62 (codes "&gt;") refl)
      (λ gt. cond_both (c == 34) _ _ ReadsAs (by_code 34 (codes "&quot;") refl)
      (λ quot. cond_both (c == 39) _ _ ReadsAs (by_code 39 (codes "&#39;") refl)
      (λ apos. bytes-read (encode_utf8 c) rest (character-bytes c (lt, amp)))))))

-- ---- bytes, one after another

-- a reader in text finds these tokens in the bytes, whatever follows them
abbrev Reads : List ℕ → List Token → Type 0
Reads bs tokens =
    (rest : List ℕ) → tokens_from InText (bs ++ rest) ≡ tokens ++ tokens_from InText rest

reads-append : (a b : List ℕ) (s t : List Token) → Reads a s → Reads b t
    → Reads (a ++ b) (s ++ t)
reads-append a b s t first second rest =
    ap (tokens_from InText) (append_assoc a b rest) ∙ first (b ++ rest)
    ∙ ap (λ (tokens : List Token). s ++ tokens) (second rest)
    ∙ sym (append_assoc s t (tokens_from InText rest))

reads-all : {A : Type 0} (bytes : A → List ℕ) (tokens : A → List Token)
    → ((x : A) → Reads (bytes x) (tokens x)) → (xs : List A)
    → Reads (flat_map bytes xs) (flat_map tokens xs)
reads-all bytes tokens each [] rest = refl
reads-all bytes tokens each (x ∷ xs) rest =
    reads-append (bytes x) (flat_map bytes xs) (tokens x) (flat_map tokens xs) (each x)
    (reads-all bytes tokens each xs) rest

reads-if : (test : Bool) (a b : List ℕ) (s t : List Token) → Reads a s → Reads b t
    → Reads (if test then a else b) (if test then s else t)
reads-if true a b s t first second = first
reads-if false a b s t first second = second

-- ---- spans

-- the tag that starts a `span` of the class is read as one
abbrev IsClass : List ℕ → Type 0
IsClass class = Reads (span_tag class) (Tag (span_tag_content class) ∷ [])

span-read : (class content : List ℕ) (tokens : List Token) → IsClass class
    → Reads content tokens
    → Reads (html_span class content) (span_tokens class tokens)
span-read class content tokens starts inside =
    let start = Tag (span_tag_content class) ∷ [] in
    reads-append (span_tag class ++ content) (codes "</span>") (start ++ tokens)
    (Tag (codes "/span") ∷ [])
    (reads-append (span_tag class) content start tokens starts inside) (λ rest. refl)

-- the class of a box
box-class : (c : ℕ) → IsClass (box_class c)
box-class c =
    cond_both (character_cells c == 2) (codes "wide") (codes "wide-3") IsClass (λ _ rest. refl)
    (λ _ rest. refl)

-- the class of a style
class-of-style : (style : StyleMark) → IsClass (style_class style)
class-of-style Reset rest = refl
class-of-style (Header Bug) rest = refl
class-of-style (Header Error) rest = refl
class-of-style (Header Warning) rest = refl
class-of-style (Header Note) rest = refl
class-of-style (Header Help) rest = refl
class-of-style HeaderMessage rest = refl
class-of-style LineNumber rest = refl
class-of-style NoteBullet rest = refl
class-of-style SourceBorder rest = refl
class-of-style (Label Bug Primary) rest = refl
class-of-style (Label Error Primary) rest = refl
class-of-style (Label Warning Primary) rest = refl
class-of-style (Label Note Primary) rest = refl
class-of-style (Label Help Primary) rest = refl
class-of-style (Label severity Secondary) rest = refl

-- ---- texts and runs

-- a character, a wide one in a box
cell-read : (c : ℕ) → Reads (html_cell c) (cell_tokens c)
cell-read c =
    let box = html_span (box_class c) (html_character c) in
    let tokens = span_tokens (box_class c) (character_tokens c) in
    reads-if (is_wide c) box (html_character c) tokens (character_tokens c)
    (span-read (box_class c) (html_character c) (character_tokens c) (box-class c)
    (character-read c))
    (character-read c)

text-read : (text : List ℕ) → Reads (escaped_text text) (text_tokens text)
text-read text = reads-all html_cell cell_tokens cell-read (safe_characters (chars text))

run-read : (run : RunView) → Reads (html_run run) (run_tokens run)
run-read run =
    let class = style_class run.style in
    let text = escaped_text run.text in
    let tokens = text_tokens run.text in
    reads-if (is_plain run.style) text (html_span class text) tokens (span_tokens class tokens)
    (text-read run.text)
    (span-read class text tokens (class-of-style run.style) (text-read run.text))

-- the element of runs reads back
pub element-read : (runs : List RunView) → read_tokens (html_element runs) ≡ element_tokens runs
element-read runs =
    ap (λ (tokens : List Token). Tag (codes "pre class=\"diagnostic\"") ∷ TextByte 10 ∷ tokens)
    (reads-all html_run run_tokens run-read runs (codes "</pre>"))

-- ---- the text of tokens

pub text_of-append : (tokens others : List Token)
    → text_of_tokens (tokens ++ others) ≡ text_of_tokens tokens ++ text_of_tokens others
text_of-append [] others = refl
text_of-append (TextByte b ∷ tokens) others = ap (λ bs. b ∷ bs) (text_of-append tokens others)
text_of-append (Tag tag ∷ tokens) others = text_of-append tokens others

pub text_of-bytes : (bs : List ℕ) → text_of_tokens (map TextByte bs) ≡ bs
text_of-bytes [] = refl
text_of-bytes (b ∷ bs) = ap (λ xs. b ∷ xs) (text_of-bytes bs)

span-text : (class : List ℕ) (tokens : List Token)
    → text_of_tokens (span_tokens class tokens) ≡ text_of_tokens tokens
span-text class tokens =
    text_of-append tokens (Tag (codes "/span") ∷ []) ∙ append-nil (text_of_tokens tokens)

-- the text of a character, in a box or in none
cell-text : (c : ℕ) → text_of_tokens (cell_tokens c) ≡ encode_utf8 c
cell-text c =
    let shown = encode_utf8 c in
    cond_both (is_wide c) _ _ (λ (tokens : List Token). text_of_tokens tokens ≡ shown)
    (λ _. span-text (box_class c) (character_tokens c) ∙ text_of-bytes shown)
    (λ _. text_of-bytes shown)

characters-text : (cs : List ℕ)
    → text_of_tokens (flat_map cell_tokens cs) ≡ encode_utf8_all cs
characters-text [] = refl
characters-text (c ∷ cs) =
    text_of-append (cell_tokens c) (flat_map cell_tokens cs)
    ∙ ap (λ bs. bs ++ text_of_tokens (flat_map cell_tokens cs)) (cell-text c)
    ∙ ap (λ bs. encode_utf8 c ++ bs) (characters-text cs)

-- the text of a run
run-text : (run : RunView) → text_of_tokens (run_tokens run) ≡ safe_text run.text
run-text run =
    let characters = safe_characters (chars run.text) in
    cond_both (is_plain run.style) _ _
    (λ (tokens : List Token). text_of_tokens tokens ≡ safe_text run.text)
    (λ _. characters-text characters)
    (λ _. span-text (style_class run.style) (text_tokens run.text) ∙ characters-text characters)

-- ---- texts, one after another

pub and_true : (a b : Bool) → (a && b) ≡ true → (a ≡ true) × (b ≡ true)
and_true true b e = (refl, e)
and_true false b e = absurd (cc)

runs-text : (runs : List Run)
    → text_of_tokens (flat_map run_tokens (map run_view runs)) ≡ safe_text
    (joined (map run_view runs))
runs-text [] = sym safe_text-nil
runs-text (run ∷ runs) =
    let rest = joined (map run_view runs) in
    text_of-append (run_tokens (run_view run)) (flat_map run_tokens (map run_view runs))
    ∙ ap (λ bs. bs ++ text_of_tokens (flat_map run_tokens (map run_view runs)))
    (run-text (run_view run))
    ∙ ap (λ bs. safe_text (string_bytes run.text) ++ bs) (runs-text runs)
    ∙ sym (safe_text-append (string_bytes run.text) rest (IsUtf8-string_bytes run.text))

-- the text of an element is the safe text of its runs
pub element-text : (runs : List Run)
    → text_of_html (html_element (map run_view runs)) ≡ safe_text (joined (map run_view runs))
element-text runs =
    let inner = flat_map run_tokens (map run_view runs) in
    ap (λ (tokens : List Token). without_newline (text_of_tokens tokens))
    (element-read (map run_view runs))
    ∙ text_of-append inner (Tag (codes "/pre") ∷ []) ∙ append-nil (text_of_tokens inner)
    ∙ runs-text runs

-- each character of it is in the column of the one that it is shown for
pub element-columns : (runs : List Run) (text : List ℕ)
    → text ≡ safe_text (joined (map run_view runs))
    → AreInColumns (chars text) (run_characters (map run_view runs))
element-columns runs text is tab_width =
    let characters = run_characters (map run_view runs) in
    let shown : chars text ≡ safe_characters characters =
    ap chars is
    ∙ chars_of_safe_text (joined (map run_view runs)) (joined-utf8 runs)
    ∙ ap safe_characters (joined-characters runs) in
    ap (columns tab_width 0) shown ∙ columns_stay tab_width 0 characters
