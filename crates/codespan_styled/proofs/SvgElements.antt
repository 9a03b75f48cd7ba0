-- The elements of an SVG document and their numbers read back, and so do its characters: for the
-- clauses `tokens` and `text` of `to_svg`.
use Rattle.std.proofs.Common.{◌≡◌, ℕ, ◌+◌, ◌/◌, ◌%◌, true, false, List, []}
use Rattle.std.proofs.Common.{◌∷◌, ◌++◌, map, codes, decimal, refl, sym, subst, ap}
use Rattle.std.proofs.Common.{◌∙◌, append_assoc, append-nil, ◌*◌, arith, zero, suc, None}
use Rattle.std.proofs.Common.{Some, Option, ⊎_elim}
use Rattle.std.specs.Prelude.{Bool, ◌==◌, ◌&&◌, ◌||◌, not, nat_lt, if◌then◌else◌}
use Rattle.std.specs.Char.{encode_utf8}
use Rattle.std.specs.Fmt.{digit_glyph, digits, digits_onto}
use Rattle.std.proofs.lemmas.Bool.{cond_both, or_cases}
use Rattle.std.proofs.lemmas.Bool.Decides.{nat_tests}
use Rattle.codespan_base.specs.declared.term.config.color.Color.{Color}
use Rattle.codespan_base.specs.declared.term.config.color.Color.TheVariants.{Black, Red, Green}
use Rattle.codespan_base.specs.declared.term.config.color.Color.TheVariants.{Yellow, Blue, Magenta}
use Rattle.codespan_base.specs.declared.term.config.color.Color.TheVariants.{Cyan, White}
use Rattle.codespan_styled.specs.declared.svg.ink.Ink.{Ink}
use Rattle.codespan_styled.specs.declared.svg.position.CellPosition.{CellPosition}
use Rattle.codespan_styled.specs.HtmlReading.{InTag, InText, Tag, TextByte, tokens_from}
use Rattle.codespan_styled.specs.Svg.{y_of, color_attribute, font_attributes, height}
use Rattle.codespan_styled.specs.Svg.{x_of, svg_tag_start, svg_tag_content}
use Rattle.codespan_styled.specs.Svg.{text_tag_content, weight_attribute, width, xml_character}
use Rattle.codespan_styled.proofs.HtmlReading.{and_true, bytes-read, character-bytes}
use Rattle.codespan_styled.proofs.HtmlReading.{is_code}

-- ---- tags

-- no byte ends a tag
abbrev pub is_inside : List ℕ → Bool
is_inside [] = true
is_inside (b ∷ bs) = not (b == 62) && is_inside bs

pub not_true : (b : Bool) → not b ≡ true → b ≡ false
not_true true e = absurd (cc)
not_true false e = refl

inside-append : (a b : List ℕ) → is_inside a ≡ true → is_inside b ≡ true
    → is_inside (a ++ b) ≡ true
inside-append [] b x y = y
inside-append (c ∷ cs) b x y =
    let both = and_true (not (c == 62)) (is_inside cs) x in
    ap (λ t. t && is_inside (cs ++ b)) both.0 ∙ inside-append cs b both.1 y

-- the content of a tag is read as it is
content-read : (tag bs rest : List ℕ) → is_inside bs ≡ true
    → tokens_from (InTag tag) (bs ++ 62 ∷ rest) ≡ Tag (tag ++ bs) ∷ tokens_from InText rest
content-read tag [] rest h =
    ap (λ (t : List ℕ). Tag t ∷ tokens_from InText rest) (sym (append-nil tag))
content-read tag (b ∷ bs) rest h =
    let both = and_true (not (b == 62)) (is_inside bs) h in
    let ended = Tag tag ∷ tokens_from InText (bs ++ 62 ∷ rest) in
    let more = tokens_from (InTag (tag ++ b ∷ [])) (bs ++ 62 ∷ rest) in
    ap (λ (t : Bool). if t then ended else more) (not_true (b == 62) both.0)
    ∙ content-read (tag ++ b ∷ []) bs rest both.1
    ∙ ap (λ (t : List ℕ). Tag t ∷ tokens_from InText rest) (append_assoc tag (b ∷ []) bs)

-- ---- numbers

-- a digit
digit-inside : (n : ℕ) (bs : List ℕ) → is_inside bs ≡ true
    → is_inside (digit_glyph false (n % 10) ∷ bs) ≡ true
digit-inside n bs h =
    cond_both (nat_lt (n % 10) 10) _ _ (λ d. is_inside (d ∷ bs) ≡ true)
    (λ t.
    let no : (48 + n % 10 == 62) ≡ false = grind (arith, nat_tests) in
    ap (λ e. not e && is_inside bs) no ∙ h)
    (λ f. absurd (grind (arith, nat_tests)))

onto-inside : (k n : ℕ) (bs : List ℕ) → is_inside bs ≡ true
    → is_inside (digits_onto k 10 false n bs) ≡ true
onto-inside zero n bs h = h
onto-inside (suc k) n bs h =
    cond_both (n / 10 == 0) _ _ (λ ds. is_inside ds ≡ true)
    (λ _. digit-inside n bs h)
    (λ _. onto-inside k (n / 10) (digit_glyph false (n % 10) ∷ bs) (digit-inside n bs h))

decimal-inside : (n : ℕ) → is_inside (decimal n) ≡ true
unfolding digits
decimal-inside n = onto-inside 64 n [] refl

-- ---- the contents of tags

color-inside : (color : Option Color) → is_inside (color_attribute color) ≡ true
color-inside None = refl
color-inside (Some Black) = refl
color-inside (Some Red) = refl
color-inside (Some Green) = refl
color-inside (Some Yellow) = refl
color-inside (Some Blue) = refl
color-inside (Some Magenta) = refl
color-inside (Some Cyan) = refl
color-inside (Some White) = refl

weight-inside : (bold : Bool) → is_inside (weight_attribute bold) ≡ true
weight-inside true = refl
weight-inside false = refl

pub text-inside : (position : CellPosition) (cells : ℕ) (ink : Ink)
    → is_inside (text_tag_content position cells ink) ≡ true
text-inside position cells ink =
    let p1 : List ℕ = codes "text x=\"" ++ decimal (x_of position) in
    let i1 : is_inside p1 ≡ true =
    inside-append (codes "text x=\"") (decimal (x_of position)) (refl)
    (decimal-inside (x_of position)) in
    let p2 : List ℕ = p1 ++ codes "\" y=\"" in
    let i2 : is_inside p2 ≡ true = inside-append (p1) (codes "\" y=\"") (i1) (refl) in
    let p3 : List ℕ = p2 ++ decimal (y_of position) in
    let i3 : is_inside p3 ≡ true =
    inside-append (p2) (decimal (y_of position)) (i2) (decimal-inside (y_of position)) in
    let p4 : List ℕ = p3 ++ codes "\" textLength=\"" in
    let i4 : is_inside p4 ≡ true = inside-append (p3) (codes "\" textLength=\"") (i3) (refl) in
    let p5 : List ℕ = p4 ++ decimal (9 * cells) in
    let i5 : is_inside p5 ≡ true =
    inside-append (p4) (decimal (9 * cells)) (i4) (decimal-inside (9 * cells)) in
    let p6 : List ℕ = p5 ++ codes "\"" in
    let i6 : is_inside p6 ≡ true = inside-append (p5) (codes "\"") (i5) (refl) in
    let p7 : List ℕ = p6 ++ color_attribute ink.color in
    let i7 : is_inside p7 ≡ true =
    inside-append (p6) (color_attribute ink.color) (i6) (color-inside ink.color) in
    let p8 : List ℕ = p7 ++ weight_attribute ink.bold in
    let i8 : is_inside p8 ≡ true =
    inside-append (p7) (weight_attribute ink.bold) (i7) (weight-inside ink.bold) in
    i8

size-inside : (extent : CellPosition) → is_inside (svg_tag_start extent) ≡ true
size-inside extent =
    let p1 : List ℕ =
    codes "svg xmlns=\"http://www.w3.org/2000/svg\" width=\"" ++ decimal (width extent) in
    let i1 : is_inside p1 ≡ true =
    inside-append (codes "svg xmlns=\"http://www.w3.org/2000/svg\" width=\"")
    (decimal (width extent)) (refl) (decimal-inside (width extent)) in
    let p2 : List ℕ = p1 ++ codes "\" height=\"" in
    let i2 : is_inside p2 ≡ true = inside-append (p1) (codes "\" height=\"") (i1) (refl) in
    let p3 : List ℕ = p2 ++ decimal (height extent) in
    let i3 : is_inside p3 ≡ true =
    inside-append (p2) (decimal (height extent)) (i2) (decimal-inside (height extent)) in
    let p4 : List ℕ = p3 ++ codes "\" viewBox=\"0 0 " in
    let i4 : is_inside p4 ≡ true = inside-append (p3) (codes "\" viewBox=\"0 0 ") (i3) (refl) in
    let p5 : List ℕ = p4 ++ decimal (width extent) in
    let i5 : is_inside p5 ≡ true =
    inside-append (p4) (decimal (width extent)) (i4) (decimal-inside (width extent)) in
    let p6 : List ℕ = p5 ++ codes " " in
    let i6 : is_inside p6 ≡ true = inside-append (p5) (codes " ") (i5) (refl) in
    let p7 : List ℕ = p6 ++ decimal (height extent) in
    let i7 : is_inside p7 ≡ true =
    inside-append (p6) (decimal (height extent)) (i6) (decimal-inside (height extent)) in
    let p8 : List ℕ = p7 ++ codes "\"" in
    let i8 : is_inside p8 ≡ true = inside-append (p7) (codes "\"") (i7) (refl) in
    i8

pub svg-inside : (extent : CellPosition) → is_inside (svg_tag_content extent) ≡ true
unfolding font_attributes
svg-inside extent = inside-append (svg_tag_start extent) font_attributes (size-inside extent) refl

-- a tag
pub tag-read : (content rest : List ℕ) → is_inside content ≡ true
    → tokens_from InText ((codes "<" ++ content ++ codes ">") ++ rest)
    ≡ Tag content ∷ tokens_from
    InText rest
tag-read content rest h =
    ap (tokens_from (InTag [])) (append_assoc content (codes ">") rest)
    ∙ content-read [] content rest h

-- ---- characters

module _ (c : ℕ) (rest : List ℕ) where
  -- bytes read as the character
  abbrev ReadsAs : List ℕ → Type 0
  ReadsAs bs =
      tokens_from InText (bs ++ rest) ≡ map TextByte (encode_utf8 c) ++ tokens_from InText rest

  -- bytes read as the character of this code
  by_code : (n : ℕ) (bs : List ℕ)
      → tokens_from InText (bs ++ rest) ≡ map TextByte (encode_utf8 n)
      ++ tokens_from InText rest
      → (c == n) ≡ true → ReadsAs bs
  by_code n bs is t =
      subst
      (λ k. tokens_from InText (bs ++ rest) ≡ map TextByte (encode_utf8 k)
      ++ tokens_from InText rest)
      (sym (is_code c n t)) is

  pub character-read : ReadsAs (xml_character c)
  unfolding encode_utf8
  character-read =
      cond_both (c == 38) _ _ ReadsAs (by_code 38 (codes "&amp;") refl)
      (λ amp. cond_both (c == 60) _ _ ReadsAs (by_code 60 (codes "&lt;") refl)
      (λ lt. cond_both (c == 62) _ _ ReadsAs (by_code 62 (codes "&gt;") refl)
      (λ gt. bytes-read (encode_utf8 c) rest (character-bytes c (lt, amp)))))

-- ---- white space

-- a newline, a space or a tab
abbrev pub is_space : ℕ → Bool
is_space c = (c == 10) || (c == 32) || (c == 9)

-- what holds of a newline, of a space and of a tab holds of white space
of_white_space : (P : ℕ → Type 0) (c : ℕ) → is_space c ≡ true → P 10 → P 32 → P 9
    → P c
of_white_space P c e newline space tab =
    ⊎_elim
    (λ early. ⊎_elim (λ t. subst P (sym (is_code c 10 t)) newline)
    (λ t. subst P (sym (is_code c 32 t)) space) (or_cases (c == 10) (c == 32) early))
    (λ t. subst P (sym (is_code c 9 t)) tab) (or_cases ((c == 10) || (c == 32)) (c == 9) e)

pub white-space-read : (c : ℕ) (rest : List ℕ) → is_space c ≡ true
    → tokens_from InText (encode_utf8 c ++ rest) ≡ TextByte c ∷ tokens_from InText rest
unfolding encode_utf8
white-space-read c rest e =
    of_white_space
    (λ k. tokens_from InText (encode_utf8 k ++ rest) ≡ TextByte k ∷ tokens_from InText rest) c
    e
    refl refl refl

pub white-space-shown : (c : ℕ) → is_space c ≡ true → c ∷ [] ≡ encode_utf8 c
unfolding encode_utf8
white-space-shown c e = of_white_space (λ k. k ∷ [] ≡ encode_utf8 k) c e refl refl refl
