-- For `outputs_are_utf8`: the streams of parts of rows are texts.
use Rattle.codespan_core.proofs.Std.{◌≡◌, ℕ, zero, suc, ◌<◌, ◌/◌, ◌%◌, Bool}
use Rattle.codespan_core.proofs.Std.{true, false, ◌&&◌, ◌==◌, List, [], ◌∷◌, ◌++◌}
use Rattle.codespan_core.proofs.Std.{flat_map, map, replicate, append_assoc, append-nil, Option}
use Rattle.codespan_core.proofs.Std.{Some, None, refl, sym, subst, arith, codes, decimal, nat_lt}
use Rattle.codespan_core.proofs.Std.{IsScalar, encode_utf8, AllByRecursion, repeat, IsUtf8, chars}
use Rattle.codespan_core.proofs.Std.{cond_both, nat_tests, IsUtf8-nil}
use Rattle.std.specs.Fmt.{digits, digits_onto, digit_glyph}
use Rattle.std.specs.Str.{IsAscii}
use Rattle.std.proofs.lemmas.Str.{IsUtf8-append, IsUtf8-encode, IsUtf8-from_ascii}
use Rattle.std.proofs.lemmas.Str.Ascii.{IsAscii-cons, IsAscii-nil}
use Rattle.codespan_core.specs.declared.diagnostic.Severity.TheVariants.{Bug, Error, Warning, Note}
use Rattle.codespan_core.specs.declared.diagnostic.Severity.TheVariants.{Help}
use Rattle.codespan_core.specs.Diagnostics.{severity_name}
use Rattle.codespan_core.specs.Streams.{Stream, Byte, Mark, Slot, style_mark, glyph, byte_stream}
use Rattle.codespan_core.specs.Streams.{spaces, space, repeated, newline, text_of}
use Rattle.codespan_core.specs.declared.term.config.style_mark.StyleMark.{StyleMark}
use Rattle.codespan_core.specs.declared.term.config.style_mark.StyleMark.TheVariants.{Label, Reset}
use Rattle.codespan_output.specs.Types.{LabelStyle, Primary, Secondary, Severity, Chars, Metrics}
use Rattle.codespan_output.specs.{Locus, snippet_locus, outer_gutter, outer_gutter_number}
use Rattle.codespan_output.specs.{border_left, border_left_break, style_change, label_message}
use Rattle.codespan_output.specs.{AreUtf8After, StreamIsUtf8, CharsAreScalars}
use Rattle.codespan_output.proofs.Utf8.Texts.{text_of-append, text_of-byte_stream}
use Rattle.codespan_output.proofs.Utf8.Texts.{text_of-style_mark}
use Rattle.codespan_output.specs.Private.{styled_after}

-- ---- streams

-- a text before the first one of a stream
after-prefix : (prefix text : List ℕ) (s : Stream) → IsUtf8 prefix → AreUtf8After text s
    → AreUtf8After (prefix ++ text) s
after-prefix prefix text [] u h = IsUtf8-append prefix text u h
after-prefix prefix text (Byte b ∷ s) u h =
    subst (λ xs. AreUtf8After xs s) (sym (append_assoc prefix text (b ∷ [])))
    (after-prefix prefix (text ++ b ∷ []) s u h)
after-prefix prefix text (Mark m ∷ s) u h = (IsUtf8-append prefix text u h.0, h.1)
after-prefix prefix text (Slot k ∷ s) u h = after-prefix prefix text s u h

-- one stream after another
after-both : (text : List ℕ) (s t : Stream) → AreUtf8After text s → AreUtf8After [] t
    → AreUtf8After text (s ++ t)
after-both text [] t h more =
    subst (λ xs. AreUtf8After xs t) (append-nil text) (after-prefix text [] t h more)
after-both text (Byte b ∷ s) t h more = after-both (text ++ b ∷ []) s t h more
after-both text (Mark m ∷ s) t h more = (h.0, after-both [] s t h.1 more)
after-both text (Slot k ∷ s) t h more = after-both text s t h more

-- bytes
after-bytes : (text bs : List ℕ) → IsUtf8 (text ++ bs) → AreUtf8After text (map Byte bs)
after-bytes text [] u = subst IsUtf8 (append-nil text) u
after-bytes text (b ∷ bs) u =
    after-bytes (text ++ b ∷ []) bs (subst IsUtf8 (sym (append_assoc text (b ∷ []) bs)) u)

-- nothing is a text
pub text-none : StreamIsUtf8 []
text-none = record { utf8 = IsUtf8-nil; between_style_marks = IsUtf8-nil }

-- and so is one text after another
pub text-both : (s t : Stream) → StreamIsUtf8 s → StreamIsUtf8 t → StreamIsUtf8 (s ++ t)
text-both s t a b = record {
  utf8 =
      subst IsUtf8 (sym (text_of-append s t)) (IsUtf8-append (text_of s) (text_of t) a.utf8 b.utf8);
  between_style_marks = after-both [] s t a.between_style_marks b.between_style_marks;
}

-- the same, where antt finds the streams
pub followed : {s t : Stream} → StreamIsUtf8 s → StreamIsUtf8 t → StreamIsUtf8 (s ++ t)
followed {s} {t} a b = text-both s t a b

-- bytes that are UTF-8
pub text-byte_stream : (bs : List ℕ) → IsUtf8 bs → StreamIsUtf8 (byte_stream bs)
unfolding byte_stream
text-byte_stream bs u =
    record {
      utf8 = subst IsUtf8 (sym (text_of-byte_stream bs)) u;
      between_style_marks = after-bytes
          [] bs u;
    }

-- a style mark
pub text-style_mark : (m : StyleMark) → StreamIsUtf8 (style_mark m)
unfolding style_mark
text-style_mark m =
    record {
      utf8 =
          subst IsUtf8 (sym (text_of-style_mark m)) IsUtf8-nil;
      between_style_marks = (IsUtf8-nil, IsUtf8-nil);
    }

-- a character
pub text-glyph : (c : ℕ) → IsScalar c → StreamIsUtf8 (glyph c)
text-glyph c s = text-byte_stream (encode_utf8 c) (IsUtf8-encode c s)

-- bytes of ASCII
is_ascii : List ℕ → Bool
is_ascii [] = true
is_ascii (b ∷ bs) = nat_lt b 128 && is_ascii bs

ascii-bytes : (bs : List ℕ) → is_ascii bs ≡ true → IsAscii bs
unfolding is_ascii
ascii-bytes [] e = IsAscii-nil
ascii-bytes (b ∷ bs) e =
    IsAscii-cons b bs (grind (arith, nat_tests)) (ascii-bytes bs (grind (arith, nat_tests)))

text-ascii : (bs : List ℕ) → is_ascii bs ≡ true → StreamIsUtf8 (byte_stream bs)
text-ascii bs e = text-byte_stream bs (IsUtf8-from_ascii bs (ascii-bytes bs e))

-- some literals
pub text-space : StreamIsUtf8 space
unfolding is_ascii
text-space = text-ascii (32 ∷ []) refl

pub text-newline : StreamIsUtf8 newline
unfolding is_ascii
text-newline = text-ascii (10 ∷ []) refl

pub text-colon : StreamIsUtf8 (byte_stream (codes ":"))
unfolding is_ascii
text-colon = text-ascii (codes ":") refl

pub text-colon_space : StreamIsUtf8 (byte_stream (codes ": "))
unfolding is_ascii
text-colon_space = text-ascii (codes ": ") refl

pub text-open : StreamIsUtf8 (byte_stream (codes "["))
unfolding is_ascii
text-open = text-ascii (codes "[") refl

pub text-close : StreamIsUtf8 (byte_stream (codes "]"))
unfolding is_ascii
text-close = text-ascii (codes "]") refl

-- spaces
ascii-spaces : (n : ℕ) → IsAscii (replicate n 32)
ascii-spaces zero = IsAscii-nil
ascii-spaces (suc n) = IsAscii-cons 32 (replicate n 32) (omega arith) (ascii-spaces n)

pub text-spaces : (n : ℕ) → StreamIsUtf8 (spaces n)
unfolding spaces
text-spaces n = text-byte_stream (replicate n 32)
    (IsUtf8-from_ascii (replicate n 32) (ascii-spaces n))

-- a character many times
pub text-repeated : (n c : ℕ) → IsScalar c → StreamIsUtf8 (repeated n c)
unfolding repeated
text-repeated zero c s = text-none
text-repeated (suc n) c s =
    text-both (glyph c) (repeat n (glyph c)) (text-glyph c s) (text-repeated n c s)

-- the streams of elements
pub text-each : {X : Type 0} (f : X → Stream) (xs : List X)
    → AllByRecursion (λ x. StreamIsUtf8 (f x)) xs
    → StreamIsUtf8 (flat_map f xs)
text-each f [] h = text-none
text-each f (x ∷ xs) h = text-both (f x) (flat_map f xs) h.0 (text-each f xs h.1)

-- digits
ascii-digit : (n : ℕ) → digit_glyph false (n % 10) < 128
ascii-digit n = let small : n % 10 < 10 = omega arith in grind (arith, nat_tests)

ascii-digits : (k n : ℕ) (acc : List ℕ) → IsAscii acc
    → IsAscii (digits_onto k 10 false n acc)
ascii-digits zero n acc a = a
ascii-digits (suc k) n acc a =
    let one : IsAscii (digit_glyph false (n % 10) ∷ acc) =
    IsAscii-cons (digit_glyph false (n % 10)) acc (ascii-digit n) a in
    cond_both (n / 10 == 0) (digit_glyph false (n % 10) ∷ acc)
    (digits_onto k 10 false (n / 10) (digit_glyph false (n % 10) ∷ acc)) IsAscii
    (λ _. one) (λ _. ascii-digits k (n / 10) (digit_glyph false (n % 10) ∷ acc) one)

pub text-decimal : (n : ℕ) → StreamIsUtf8 (byte_stream (decimal n))
unfolding digits
text-decimal n =
    text-byte_stream (decimal n) (IsUtf8-from_ascii (decimal n) (ascii-digits 64 n [] IsAscii-nil))

pub ruleset pieces = (
  text-none,
  text-both,
  text-byte_stream,
  text-style_mark,
  text-glyph,
  text-space,
  text-newline,
  text-colon,
  text-colon_space,
  text-open,
  text-close,
  text-spaces,
  text-repeated,
  text-decimal,
)

-- ---- parts of rows

pub text-severity : (severity : Severity) → StreamIsUtf8 (byte_stream (severity_name severity))
unfolding is_ascii
text-severity Bug = text-ascii (codes "bug") refl
text-severity Error = text-ascii (codes "error") refl
text-severity Warning = text-ascii (codes "warning") refl
text-severity Note = text-ascii (codes "note") refl
text-severity Help = text-ascii (codes "help") refl

pub text-locus : (p : Locus) → IsUtf8 p.name → StreamIsUtf8 (snippet_locus p)
unfolding snippet_locus
text-locus p u = search pieces

pub text-outer_gutter : (padding : ℕ) → StreamIsUtf8 (outer_gutter padding)
unfolding outer_gutter
text-outer_gutter padding = search pieces

pub text-outer_gutter_number : (padding n : ℕ) → StreamIsUtf8 (outer_gutter_number padding n)
unfolding outer_gutter_number
text-outer_gutter_number padding n = search pieces

pub text-border_left : (chars : Chars) → CharsAreScalars chars
    → StreamIsUtf8 (border_left chars)
unfolding border_left
text-border_left chars ok = search (pieces, ok.source_border_left)

pub text-border_left_break : (chars : Chars) → CharsAreScalars chars
    → StreamIsUtf8 (border_left_break chars)
unfolding border_left_break
text-border_left_break chars ok = search (pieces, ok.source_border_left_break)

text-style_change : (severity : Severity) (a b : Option LabelStyle)
    → StreamIsUtf8 (style_change severity a b)
unfolding style_change
text-style_change severity None None = text-none
text-style_change severity None (Some style) = text-style_mark (Label severity style)
text-style_change severity (Some style) None = text-style_mark Reset
text-style_change severity (Some Primary) (Some Primary) = text-none
text-style_change severity (Some Secondary) (Some Secondary) = text-none
text-style_change severity (Some Primary) (Some Secondary) =
    text-style_mark (Label severity Secondary)
text-style_change severity (Some Secondary) (Some Primary) =
    text-style_mark (Label severity Primary)

pub text-styled : (severity : Severity) (style : Metrics → Option LabelStyle)
    (shown : Metrics → Stream) (previous : Option LabelStyle) (cs : List Metrics)
    → AllByRecursion (λ c. StreamIsUtf8 (shown c)) cs
    → StreamIsUtf8 (styled_after severity style shown previous cs)
text-styled severity style shown previous [] h = text-style_change severity previous None
text-styled severity style shown previous (c ∷ cs) h =
    text-both (style_change severity previous (style c) ++ shown c) _
    (text-both (style_change severity previous (style c)) (shown c)
    (text-style_change severity previous (style c)) h.0)
    (text-styled severity style shown (style c) cs h.1)

pub text-label_message : (severity : Severity) (style : LabelStyle) (message : Stream)
    → StreamIsUtf8 message → StreamIsUtf8 (label_message severity style message)
unfolding label_message
text-label_message severity style message t =
    text-both (style_mark (Label severity style) ++ message) (style_mark Reset)
    (text-both (style_mark (Label severity style)) message
    (text-style_mark (Label severity style)) t)
    (text-style_mark Reset)
