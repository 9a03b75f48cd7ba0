-- Each element that a tag opens is closed: for the clause `balanced` of `to_html`.
use Rattle.std.proofs.Common.{◌≡◌, ℕ, true, false, List, [], ◌∷◌, ◌++◌, map}
use Rattle.std.proofs.Common.{codes, Some, refl, ap, ◌∙◌, append_assoc}
use Rattle.std.specs.Prelude.{Bool, if◌then◌else◌}
use Rattle.std.specs.Char.{encode_utf8}
use Rattle.std.specs.List.{flat_map}
use Rattle.std.specs.Str.{chars}
use Rattle.codespan_styled.specs.Html.{box_class, is_wide, style_class}
use Rattle.codespan_styled.specs.HtmlReading.{Token, Tag, TextByte, cell_tokens, character_tokens}
use Rattle.codespan_styled.specs.HtmlReading.{element_tokens, open_after, open_from, run_tokens}
use Rattle.codespan_styled.specs.HtmlReading.{span_tokens, text_tokens}
use Rattle.codespan_styled.specs.Runs.{RunView, is_plain}
use Rattle.codespan_styled.specs.SafeText.{safe_characters}

-- the same elements are open after the tokens as before them
abbrev Keeps : List Token → Type 0
Keeps tokens =
    (rest : List Token) (elements : List (List ℕ))
    → open_from (tokens ++ rest) elements ≡ open_from rest elements

-- ---- tokens, one after another

keeps-append : (s t : List Token) → Keeps s → Keeps t → Keeps (s ++ t)
keeps-append s t first second rest elements =
    ap (λ (tokens : List Token). open_from tokens elements) (append_assoc s t rest)
    ∙ first (t ++ rest) elements ∙ second rest elements

keeps-all : {A : Type 0} (tokens : A → List Token) → ((x : A) → Keeps (tokens x))
    → (xs : List A)
    → Keeps (flat_map tokens xs)
keeps-all tokens each [] rest elements = refl
keeps-all tokens each (x ∷ xs) rest elements =
    keeps-append (tokens x) (flat_map tokens xs) (each x) (keeps-all tokens each xs) rest elements

keeps-if : (test : Bool) (s t : List Token) → Keeps s → Keeps t
    → Keeps (if test then s else t)
keeps-if true s t first second = first
keeps-if false s t first second = second

-- ---- the tokens of an element

bytes-keep : (bs : List ℕ) → Keeps (map TextByte bs)
bytes-keep [] rest elements = refl
bytes-keep (b ∷ bs) rest elements = bytes-keep bs rest elements

-- a `span` is opened and closed
span-keeps : (class : List ℕ) (tokens : List Token) → Keeps tokens
    → Keeps (span_tokens class tokens)
span-keeps class tokens inside rest elements =
    let opened = codes "span" ∷ elements in
    ap (λ (ts : List Token). open_from ts opened)
    (append_assoc tokens (Tag (codes "/span") ∷ []) rest)
    ∙ inside (Tag (codes "/span") ∷ rest) opened

-- a character, a wide one in a box
cell-keeps : (c : ℕ) → Keeps (cell_tokens c)
cell-keeps c =
    let character = bytes-keep (encode_utf8 c) in
    keeps-if (is_wide c) (span_tokens (box_class c) (character_tokens c)) (character_tokens c)
    (span-keeps (box_class c) (character_tokens c) character) character

run-keeps : (run : RunView) → Keeps (run_tokens run)
run-keeps run =
    let class = style_class run.style in
    let text = keeps-all cell_tokens cell-keeps (safe_characters (chars run.text)) in
    keeps-if (is_plain run.style) (text_tokens run.text) (span_tokens class (text_tokens run.text))
    text (span-keeps class (text_tokens run.text) text)

-- no element is open after that of runs
pub element-balanced : (runs : List RunView) → open_after (element_tokens runs) ≡ Some []
element-balanced runs =
    keeps-all run_tokens run-keeps runs (Tag (codes "/pre") ∷ []) (codes "pre" ∷ [])
