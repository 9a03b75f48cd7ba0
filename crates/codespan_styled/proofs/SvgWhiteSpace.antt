-- No `text` element of a document shows white space: for `svg::laws::texts_have_no_white_space`.
use Rattle.std.proofs.Common.{◌≡◌, ℕ, ◌+◌, ◌≤◌, ◌/◌, ◌%◌, true, false}
use Rattle.std.proofs.Common.{List, [], ◌∷◌, arith, map, subst, sym}
use Rattle.std.specs.Prelude.{All, ◌==◌, ◌||◌, ◌&&◌, not, nat_le, nat_lt}
use Rattle.std.specs.Char.{encode_utf8}
use Rattle.std.specs.List.{AllByRecursion, flat_map}
use Rattle.std.proofs.lemmas.Bool.{cond_both, ne_eqb, or_from, or_parts}
use Rattle.std.proofs.lemmas.Bool.Decides.{nat_tests}
use Rattle.std.proofs.lemmas.List.Elements.{All-append, All-from_recursion, All-nil}
use Rattle.codespan_styled.specs.declared.svg.glyph.Glyph.{Glyph}
use Rattle.codespan_styled.specs.declared.svg.Pen.{Pen}
use Rattle.codespan_base.specs.declared.term.config.styles.Styles.{Styles}
use Rattle.codespan_styled.specs.Glyphs.{cells_of, follows, glyphs_of, is_narrow}
use Rattle.codespan_styled.specs.Glyphs.{is_white_space, joins, keeps_order}
use Rattle.codespan_styled.specs.Inks.{same_ink}
use Rattle.codespan_styled.specs.Runs.{RunView, run_characters}
use Rattle.codespan_styled.specs.SafeText.{is_safe}
use Rattle.codespan_styled.specs.Svg.{first_pen, next_pen}
use Rattle.codespan_styled.specs.SvgReading.{is_collapsible, joined_glyphs, pieces_from}
use Rattle.codespan_styled.specs.SvgReading.{shown_bytes, shown_glyphs}
use Rattle.codespan_styled.proofs.Shown.{AllSafe, all_safe}
use Rattle.codespan_styled.proofs.SvgReading.{characters-are}
use Rattle.codespan_styled.proofs.HtmlReading.{and_true}
use Rattle.codespan_styled.proofs.SvgElements.{not_true}

-- ---- bytes

-- the byte is no white space
abbrev IsShown : ℕ → Type 0
IsShown byte = is_collapsible byte ≡ false

shown-byte : (b : ℕ) → (b == 9) ≡ false → (b == 10) ≡ false → (b == 13) ≡ false
    → (b == 32) ≡ false → IsShown b
shown-byte b tab newline return space =
    or_from _ (b == 32) (or_from _ (b == 13) (or_from (b == 9) (b == 10) tab newline) return) space

-- a byte outside ASCII: its upper bits, and others
outside-ascii : (upper others : ℕ) → 128 ≤ upper → IsShown (upper + others)
outside-ascii upper others big =
    let high : 128 ≤ upper + others = omega arith in
    shown-byte (upper + others) (grind (arith, nat_tests)) (grind (arith, nat_tests))
    (grind (arith, nat_tests)) (grind (arith, nat_tests))

-- the bytes of a character that is no white space
encoded-shown : (c : ℕ) → IsShown c → AllByRecursion IsShown (encode_utf8 c)
unfolding encode_utf8
encoded-shown c h =
    let last : IsShown (128 + c % 64) = outside-ascii 128 (c % 64) (omega arith) in
    let middle : IsShown (128 + c / 64 % 64) = outside-ascii 128 (c / 64 % 64) (omega arith) in
    let second : IsShown (128 + c / 4096 % 64) = outside-ascii 128 (c / 4096 % 64) (omega arith) in
    cond_both (nat_lt c 128) _ _ (AllByRecursion IsShown) (λ _. (h, tt))
    (λ _. cond_both (nat_lt c 2048) _ _ (AllByRecursion IsShown)
    (λ _. (outside-ascii 192 (c / 64) (omega arith), (last, tt)))
    (λ _. cond_both (nat_lt c 65536) _ _ (AllByRecursion IsShown)
    (λ _. (outside-ascii 224 (c / 4096) (omega arith), (middle, (last, tt))))
    (λ _. (outside-ascii 240 (c / 262144) (omega arith), (second, (middle, (last, tt)))))))

-- ---- glyphs

-- bytes that are no white space
-- the glyph is no carriage return
abbrev NoReturn : Glyph → Type 0
NoReturn glyph = (glyph.character == 13) ≡ false

-- a glyph that is neither white space nor a carriage return
glyph-shown : (glyph : Glyph) → is_white_space glyph ≡ false → NoReturn glyph
    → All IsShown (encode_utf8 glyph.character)
glyph-shown glyph e return =
    let parts = or_parts ((glyph.character == 10) || (glyph.character == 32)) (glyph.character == 9)
    e in
    let two = or_parts (glyph.character == 10) (glyph.character == 32) parts.0 in
    All-from_recursion IsShown (encode_utf8 glyph.character)
    (encoded-shown glyph.character (shown-byte glyph.character parts.1 two.0 return two.1))

-- a glyph that belongs to the `text` element of the one before it is no white space
joined_no_white_space : (glyph next : Glyph) → joins glyph next ≡ true
    → is_white_space next ≡ false
joined_no_white_space glyph next e =
    let drawn = is_narrow glyph && is_narrow next in
    let narrow =
    and_true (is_narrow glyph) (is_narrow next)
    (and_true drawn (same_ink glyph.ink next.ink)
    (and_true (drawn && same_ink glyph.ink next.ink) (keeps_order glyph next) e).0).0 in
    not_true (is_white_space next)
    (and_true (not (is_white_space next)) (nat_le (cells_of next) 1) narrow.1).0

-- the glyphs of a `text` element from this one on
text-shown : (glyph : Glyph) (others : List Glyph) → is_white_space glyph ≡ false
    → AllByRecursion NoReturn (glyph ∷ others)
    → All IsShown (shown_glyphs (glyph ∷ joined_glyphs glyph others))
text-shown glyph [] e kept =
    All-append IsShown (encode_utf8 glyph.character) [] (glyph-shown glyph e kept.0)
    (All-nil IsShown)
text-shown glyph (next ∷ others) e kept =
    All-append IsShown (encode_utf8 glyph.character)
    (shown_glyphs (joined_glyphs glyph (next ∷ others))) (glyph-shown glyph e kept.0)
    (cond_both (joins glyph next) _ _ (λ glyphs. All IsShown (shown_glyphs glyphs))
    (λ t. text-shown next others (joined_no_white_space glyph next t) kept.1)
    (λ _. All-nil IsShown))

-- ---- pieces

pieces-shown : (pen : Pen) (glyphs : List Glyph) → AllByRecursion NoReturn glyphs
    → All IsShown (flat_map shown_bytes (pieces_from pen glyphs))
pieces-shown pen [] kept = All-nil IsShown
pieces-shown pen (glyph ∷ glyphs) kept =
    let others : All IsShown (flat_map shown_bytes (pieces_from (next_pen pen glyph) glyphs)) =
    pieces-shown (next_pen pen glyph) glyphs kept.1 in
    cond_both (is_white_space glyph) _ _ (λ pieces. All IsShown (flat_map shown_bytes pieces))
    (λ _. others)
    (λ e. cond_both (follows pen.before glyph) _ _
    (λ pieces. All IsShown (flat_map shown_bytes pieces)) (λ _. others)
    (λ _. All-append IsShown (shown_glyphs (glyph ∷ joined_glyphs glyph glyphs))
    (flat_map shown_bytes (pieces_from (next_pen pen glyph) glyphs))
    (text-shown glyph glyphs e kept) others))

-- ---- glyphs of runs

-- glyphs whose characters are safe
no-returns : (glyphs : List Glyph)
    → AllSafe (map (λ (glyph : Glyph). glyph.character) glyphs)
    → AllByRecursion NoReturn glyphs
no-returns [] safe = tt
no-returns (glyph ∷ glyphs) safe = (
  ne_eqb glyph.character 13
      (λ (e : glyph.character ≡ 13). let bad : false
      ≡ true = subst (λ x. is_safe x ≡ true) e safe.0 in cc bad),
  no-returns glyphs safe.1,
)

pub runs-shown : (styles : Styles) (runs : List RunView)
    → All IsShown (flat_map shown_bytes (pieces_from first_pen (glyphs_of styles runs)))
runs-shown styles runs =
    pieces-shown first_pen (glyphs_of styles runs)
    (no-returns (glyphs_of styles runs)
    (subst AllSafe (sym (characters-are styles runs)) (all_safe (run_characters runs))))
