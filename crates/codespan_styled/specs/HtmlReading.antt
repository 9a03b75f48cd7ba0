-- How an HTML element is read back: its tags, and the text between them.
use Rattle.std.specs.Prelude.{ℕ, ◌==◌, List, [], ◌∷◌, ◌++◌, map, codes, encode_utf8}
use Rattle.std.specs.Prelude.{Option, None, Some, option_and_then, if◌then◌else◌}
use Rattle.std.specs.List.{flat_map}
use Rattle.std.specs.Str.{bytes_eq, chars}
use Rattle.codespan_styled.specs.Html.{box_class, is_wide, span_tag_content, style_class}
use Rattle.codespan_styled.specs.Runs.{RunView, is_plain}
use Rattle.codespan_styled.specs.SafeText.{safe_characters}

-- a token of an element: a byte of text, or what is between `<` and `>`
pub data Token : Type 0 where
  TextByte : ℕ → Token
  Tag : List ℕ → Token

-- the state of a reader: in text, after `<` and these bytes, or after `&` and these bytes
pub data ReaderState : Type 0 where
  InText : ReaderState
  InTag : List ℕ → ReaderState
  InEntity : List ℕ → ReaderState

-- the character of an entity; none where it is not one of the five
abbrev pub entity_text : List ℕ → List ℕ
entity_text name =
    if bytes_eq name (codes "amp") then 38 ∷ []
    else if bytes_eq name (codes "lt") then 60 ∷ []
    else if bytes_eq name (codes "gt") then 62 ∷ []
    else if bytes_eq name (codes "quot") then 34 ∷ []
    else if bytes_eq name (codes "#39") then 39 ∷ []
    else []

-- the tokens that a reader in this state finds: `<` starts a tag, which `>` ends, and `&` an
-- entity, which `;` ends
abbrev pub tokens_from : ReaderState → List ℕ → List Token
tokens_from state [] = []
tokens_from InText (b ∷ bs) =
    if b == 60 then tokens_from (InTag []) bs
    else if b == 38 then tokens_from (InEntity []) bs
    else TextByte b ∷ tokens_from InText bs
tokens_from (InTag tag) (b ∷ bs) =
    if b == 62 then Tag tag ∷ tokens_from InText bs else tokens_from (InTag (tag ++ b ∷ [])) bs
tokens_from (InEntity name) (b ∷ bs) =
    if b == 59 then map TextByte (entity_text name) ++ tokens_from InText bs
    else tokens_from (InEntity (name ++ b ∷ [])) bs

-- the tokens that a reader finds in bytes
abbrev pub read_tokens : List ℕ → List Token
read_tokens element = tokens_from InText element

-- the text of tokens
abbrev pub text_of_tokens : List Token → List ℕ
text_of_tokens [] = []
text_of_tokens (TextByte b ∷ tokens) = b ∷ text_of_tokens tokens
text_of_tokens (Tag tag ∷ tokens) = text_of_tokens tokens

-- a text without the newline at its start, which HTML does not show after the tag of a `pre`
abbrev pub without_newline : List ℕ → List ℕ
without_newline [] = []
without_newline (b ∷ text) = if b == 10 then text else b ∷ text

-- the text of an element that begins with the tag of a `pre`: tags taken out, entities read back
abbrev pub text_of_html : List ℕ → List ℕ
text_of_html element = without_newline (text_of_tokens (read_tokens element))

-- ---- balance

-- the name of a tag: what is before its first space
abbrev pub tag_name : List ℕ → List ℕ
tag_name [] = []
tag_name (b ∷ tag) = if b == 32 then [] else b ∷ tag_name tag

-- the elements that are open after an end tag of this name, if it is that of the innermost
abbrev pub closed : List ℕ → List (List ℕ) → Option (List (List ℕ))
closed name [] = None
closed name (innermost ∷ elements) = if bytes_eq name innermost then Some elements else None

-- the elements that are open after a tag, by their names, the innermost first: one that begins with
-- `/` closes the innermost, which has to have its name, and any other opens one
abbrev pub after_tag : List ℕ → List (List ℕ) → Option (List (List ℕ))
after_tag [] elements = None
after_tag (b ∷ tag) elements =
    if b == 47 then closed tag elements else Some (tag_name (b ∷ tag) ∷ elements)

-- the elements that are open after tokens, where these were open before them
abbrev pub open_from : List Token → List (List ℕ) → Option (List (List ℕ))
open_from [] elements = Some elements
open_from (TextByte b ∷ tokens) elements = open_from tokens elements
open_from (Tag tag ∷ tokens) elements = option_and_then (open_from tokens)
    (after_tag tag elements)

-- the elements that are open after tokens; none where an end tag is not that of the innermost
abbrev pub open_after : List Token → Option (List (List ℕ))
open_after tokens = open_from tokens []

-- ---- the tokens of the element of runs

-- tokens between the tags of a `span` of a class
abbrev pub span_tokens : List ℕ → List Token → List Token
span_tokens class tokens = Tag (span_tag_content class) ∷ tokens ++ Tag (codes "/span") ∷ []

-- a character
abbrev pub character_tokens : ℕ → List Token
character_tokens c = map TextByte (encode_utf8 c)

-- a character, a wide one between the tags of its box
abbrev pub cell_tokens : ℕ → List Token
cell_tokens c =
    if is_wide c then span_tokens (box_class c) (character_tokens c) else character_tokens c

-- a text: what is shown for it
abbrev pub text_tokens : List ℕ → List Token
text_tokens text = flat_map cell_tokens (safe_characters (chars text))

-- a run: a plain one is its text, any other has a tag before it and one after it
abbrev pub run_tokens : RunView → List Token
run_tokens run =
    if is_plain run.style then text_tokens run.text
    else span_tokens (style_class run.style) (text_tokens run.text)

-- all of an element: no other tag, and no other text
abbrev pub element_tokens : List RunView → List Token
element_tokens runs =
    Tag (codes "pre class=\"diagnostic\"") ∷ TextByte 10 ∷ flat_map run_tokens runs
    ++ Tag (codes "/pre") ∷ []
