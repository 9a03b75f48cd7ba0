-- HTML elements of styled text.
use Rattle.std.specs.Prelude.{ℕ, ◌==◌, Bool, nat_lt, List, ◌++◌, codes, encode_utf8}
use Rattle.std.specs.Prelude.{if◌then◌else◌}
use Rattle.std.specs.List.{flat_map}
use Rattle.std.specs.Str.{chars}
use Rattle.codespan_base.specs.declared.diagnostic.LabelStyle.TheVariants.{Primary, Secondary}
use Rattle.codespan_base.specs.declared.diagnostic.Severity.{Severity}
use Rattle.codespan_base.specs.declared.diagnostic.Severity.TheVariants.{Bug, Error, Warning, Note}
use Rattle.codespan_base.specs.declared.diagnostic.Severity.TheVariants.{Help}
use Rattle.codespan_base.specs.declared.term.config.style_mark.StyleMark.{StyleMark}
use Rattle.codespan_base.specs.declared.term.config.style_mark.StyleMark.TheVariants.{Header}
use Rattle.codespan_base.specs.declared.term.config.style_mark.StyleMark.TheVariants.{HeaderMessage}
use Rattle.codespan_base.specs.declared.term.config.style_mark.StyleMark.TheVariants.{LineNumber}
use Rattle.codespan_base.specs.declared.term.config.style_mark.StyleMark.TheVariants.{NoteBullet}
use Rattle.codespan_base.specs.declared.term.config.style_mark.StyleMark.TheVariants.{SourceBorder}
use Rattle.codespan_base.specs.declared.term.config.style_mark.StyleMark.TheVariants.{Label, Reset}
use Rattle.codespan_styled.specs.Cells.{character_cells}
use Rattle.codespan_styled.specs.Runs.{RunView, is_plain}
use Rattle.codespan_styled.specs.SafeText.{safe_characters}

-- ---- characters

-- a character in an element: those that can begin or end a tag, an attribute or an entity are
-- entities
abbrev pub html_character : ℕ → List ℕ
html_character c =
    if c == 38 then codes "&amp;"
    else if c == 60 then codes "&lt;"
    else if c == 62 then codes "&gt;"
    else if c == 34 then codes "&quot;"
    else if c == 39 then codes "&#39;"
    else encode_utf8 c

-- ---- spans

-- the content of the tag that starts a `span` of a class
abbrev pub span_tag_content : List ℕ → List ℕ
span_tag_content class = codes "span class=\"" ++ class ++ codes "\""

-- the tag that starts a `span` of a class
abbrev pub span_tag : List ℕ → List ℕ
span_tag class = codes "<" ++ span_tag_content class ++ codes ">"

-- a `span` of a class
abbrev pub html_span : List ℕ → List ℕ → List ℕ
html_span class content = span_tag class ++ content ++ codes "</span>"

-- ---- wide characters

-- the character occupies more than one cell
abbrev pub is_wide : ℕ → Bool
is_wide c = nat_lt 1 (character_cells c)

-- the class of the box of a wide character
abbrev pub box_class : ℕ → List ℕ
box_class c = if character_cells c == 2 then codes "wide" else codes "wide-3"

-- a character in an element, a wide one in a box
abbrev pub html_cell : ℕ → List ℕ
html_cell c = if is_wide c then html_span (box_class c) (html_character c) else html_character c

-- a text in an element: what is shown for it, escaped, each wide character in a box
abbrev pub escaped_text : List ℕ → List ℕ
escaped_text text = flat_map html_cell (safe_characters (chars text))

-- ---- classes

-- a severity in the name of a class
abbrev pub severity_suffix : Severity → List ℕ
severity_suffix Bug = codes "bug"
severity_suffix Error = codes "error"
severity_suffix Warning = codes "warning"
severity_suffix Note = codes "note"
severity_suffix Help = codes "help"

-- the class of a style, by the name of its field in `Styles`; plain text has none
abbrev pub style_class : StyleMark → List ℕ
style_class Reset = codes ""
style_class (Header severity) = codes "header-" ++ severity_suffix severity
style_class HeaderMessage = codes "header-message"
style_class LineNumber = codes "line-number"
style_class NoteBullet = codes "note-bullet"
style_class SourceBorder = codes "source-border"
style_class (Label severity Primary) = codes "primary-label-" ++ severity_suffix severity
style_class (Label severity Secondary) = codes "secondary-label"

-- ---- elements

-- a run: a plain one as its text, any other in a `span` of the class of its style
abbrev pub html_run : RunView → List ℕ
html_run run =
    if is_plain run.style then escaped_text run.text
    else html_span (style_class run.style) (escaped_text run.text)

-- the element of runs; HTML does not show the newline after the first tag
abbrev pub html_element : List RunView → List ℕ
html_element runs =
    codes "<pre class=\"diagnostic\">\n" ++ flat_map html_run runs ++ codes "</pre>"
