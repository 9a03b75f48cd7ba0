-- The words of lines, and the names that may follow them.
use Rattle.std.specs.Prelude.{ℕ, List, Option, Some, None, codes, if◌then◌else◌}
use Rattle.std.specs.Str.{bytes_eq}
use Rattle.codespan_base.specs.declared.term.config.Layout as layouts
use Rattle.codespan_base.specs.declared.term.config.Layout.TheVariants.{Classic, Unbroken}
use Rattle.codespan_base.specs.declared.term.config.chars.Chars.{Chars}
use Rattle.codespan_base.specs.Characters.{box_drawing, ascii}
use Rattle.gallery_cases.specs.declared.case.DatabaseKind.{DatabaseKind}
use Rattle.gallery_cases.specs.declared.case.DatabaseKind.TheVariants.{One, Several, Mapped}
use Rattle.gallery_cases.specs.declared.case.ColorChoice as colors
use Rattle.gallery_cases.specs.declared.case.ColorChoice.TheVariants.{Plain, Ansi, Svg}
use Rattle.gallery_cases.specs.declared.case.CharacterSet.{CharacterSet}
use Rattle.gallery_cases.specs.declared.case.CharacterSet.TheVariants as sets
use Rattle.gallery_cases.specs.declared.words.Word.{Word}
use Rattle.gallery_cases.specs.declared.words.Word.TheVariants.{Database, File, Source, Number}
use Rattle.gallery_cases.specs.declared.words.Word.TheVariants.{Style, Layout, Tab, Context}
use Rattle.gallery_cases.specs.declared.words.Word.TheVariants.{Characters, Colors, Severity, Code}
use Rattle.gallery_cases.specs.declared.words.Word.TheVariants.{Message, Primary, Secondary, Note}
use Rattle.gallery_cases.specs.declared.words.Word.TheVariants.{Width, Suggestion, Replace}

-- the word that this text is
unfoldable pub case_word_named : List ℕ → Option Word
case_word_named text =
    if bytes_eq text (codes "database") then Some Database
    else if bytes_eq text (codes "file") then Some File
    else if bytes_eq text (codes "|") then Some Source
    else if bytes_eq text (codes "number") then Some Number
    else if bytes_eq text (codes "style") then Some Style
    else if bytes_eq text (codes "layout") then Some Layout
    else if bytes_eq text (codes "tab") then Some Tab
    else if bytes_eq text (codes "context") then Some Context
    else if bytes_eq text (codes "width") then Some Width
    else if bytes_eq text (codes "characters") then Some Characters
    else if bytes_eq text (codes "colors") then Some Colors
    else if bytes_eq text (codes "severity") then Some Severity
    else if bytes_eq text (codes "code") then Some Code
    else if bytes_eq text (codes "message") then Some Message
    else if bytes_eq text (codes "primary") then Some Primary
    else if bytes_eq text (codes "secondary") then Some Secondary
    else if bytes_eq text (codes "note") then Some Note
    else if bytes_eq text (codes "suggestion") then Some Suggestion
    else if bytes_eq text (codes "replace") then Some Replace
    else None

-- the kind of file database with this name
unfoldable pub database_kind_named : List ℕ → Option DatabaseKind
database_kind_named text =
    if bytes_eq text (codes "one") then Some One
    else if bytes_eq text (codes "several") then Some Several
    else if bytes_eq text (codes "mapped") then Some Mapped
    else None

-- the layout with this name
unfoldable pub layout_named : List ℕ → Option layouts.Layout
layout_named text =
    if bytes_eq text (codes "classic") then Some Classic
    else if bytes_eq text (codes "unbroken") then Some Unbroken
    else None

-- the set of characters with this name
unfoldable pub characters_named : List ℕ → Option CharacterSet
characters_named text =
    if bytes_eq text (codes "box") then Some sets.Box
    else if bytes_eq text (codes "ascii") then Some sets.Ascii
    else None

-- the way to write colors with this name
unfoldable pub colors_named : List ℕ → Option colors.ColorChoice
colors_named text =
    if bytes_eq text (codes "none") then Some Plain
    else if bytes_eq text (codes "ansi") then Some Ansi
    else if bytes_eq text (codes "svg") then Some Svg
    else None

-- the characters of a set
abbrev pub chars_of : CharacterSet → Chars
chars_of sets.Box = box_drawing
chars_of sets.Ascii = ascii
