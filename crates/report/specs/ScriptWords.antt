-- The words of scripts.
use Rattle.std.specs.Prelude.{ℕ, List, Option, Some, None, codes, if◌then◌else◌}
use Rattle.std.specs.Str.{bytes_eq}
use Rattle.report.specs.declared.script.words.Word.{Word}
use Rattle.report.specs.declared.script.words.Word.TheVariants.{Severity, Code, Message, Width}
use Rattle.report.specs.declared.script.words.Word.TheVariants.{Primary, Secondary, Note}
use Rattle.report.specs.declared.script.words.Word.TheVariants.{Suggestion, Replace}

-- the word that this text is
unfoldable pub script_word_named : List ℕ → Option Word
script_word_named text =
    if bytes_eq text (codes "severity") then Some Severity
    else if bytes_eq text (codes "code") then Some Code
    else if bytes_eq text (codes "message") then Some Message
    else if bytes_eq text (codes "width") then Some Width
    else if bytes_eq text (codes "primary") then Some Primary
    else if bytes_eq text (codes "secondary") then Some Secondary
    else if bytes_eq text (codes "note") then Some Note
    else if bytes_eq text (codes "suggestion") then Some Suggestion
    else if bytes_eq text (codes "replace") then Some Replace
    else None
