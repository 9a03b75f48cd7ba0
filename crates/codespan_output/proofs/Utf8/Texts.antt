-- For `carets_are_cells`, `chars_change_no_row_length` and `lanes_take_two_characters`: texts of
-- streams.
use Rattle.codespan_core.proofs.Std.{◌≡◌, ℕ, zero, suc, ◌+◌, not, List, [], ◌∷◌}
use Rattle.codespan_core.proofs.Std.{◌++◌, replicate, encode_utf8_all, cond, refl, sym, ap}
use Rattle.codespan_core.proofs.Std.{◌∙◌, arith, append_assoc, repeat, encode_utf8, nat_tests}
use Rattle.codespan_core.proofs.Std.{sum_by-append}
use Rattle.codespan_core.specs.Streams.{Stream, Byte, Mark, Slot, byte_stream, style_mark, spaces}
use Rattle.codespan_core.specs.Streams.{repeated, glyph, text_of}
use Rattle.codespan_core.specs.declared.term.config.style_mark.StyleMark.{StyleMark}
use Rattle.codespan_output.specs.{is_continuation, character_count, row_length}

-- ---- texts of streams

pub text_of-append : (s t : Stream) → text_of (s ++ t) ≡ text_of s ++ text_of t
text_of-append [] t = refl
text_of-append (Byte b ∷ s) t = ap (λ bs. b ∷ bs) (text_of-append s t)
text_of-append (Mark m ∷ s) t = text_of-append s t
text_of-append (Slot k ∷ s) t = text_of-append s t

pub text_of-byte_stream : (bs : List ℕ) → text_of (byte_stream bs) ≡ bs
unfolding byte_stream
text_of-byte_stream [] = refl
text_of-byte_stream (b ∷ bs) = ap (λ s. b ∷ s) (text_of-byte_stream bs)

pub encode_utf8_all-append : (cs ds : List ℕ)
    → encode_utf8_all (cs ++ ds) ≡ encode_utf8_all cs ++ encode_utf8_all ds
encode_utf8_all-append [] ds = refl
encode_utf8_all-append (c ∷ cs) ds =
    ap (λ s. encode_utf8 c ++ s) (encode_utf8_all-append cs ds)
    ∙ sym (append_assoc (encode_utf8 c) (encode_utf8_all cs) (encode_utf8_all ds))

-- ASCII codes are their own bytes
pub encode_utf8_all-spaces : (n : ℕ) → encode_utf8_all (replicate n 32) ≡ replicate n 32
unfolding encode_utf8
encode_utf8_all-spaces zero = refl
encode_utf8_all-spaces (suc n) = ap (λ bs. 32 ∷ bs) (encode_utf8_all-spaces n)

pub text_of-spaces : (n : ℕ) → text_of (spaces n) ≡ replicate n 32
unfolding spaces
text_of-spaces n = text_of-byte_stream (replicate n 32)

pub text_of-style_mark : (m : StyleMark) → text_of (style_mark m) ≡ []
unfolding style_mark
text_of-style_mark m = refl

pub text_of-glyph : (c : ℕ) → text_of (glyph c) ≡ encode_utf8 c
text_of-glyph c = text_of-byte_stream (encode_utf8 c)

pub text_of-repeated : (n c : ℕ) → text_of (repeated n c) ≡ encode_utf8_all (replicate n c)
unfolding repeated
text_of-repeated zero c = refl
text_of-repeated (suc n) c =
    text_of-append (glyph c) (repeat n (glyph c))
    ∙ ap (λ s. s ++ text_of (repeat n (glyph c))) (text_of-glyph c)
    ∙ ap (λ s. encode_utf8 c ++ s) (text_of-repeated n c)

-- ---- numbers of characters

pub character_count-append : (a b : List ℕ)
    → character_count (a ++ b) ≡ character_count a + character_count b
character_count-append a b = sum_by-append (λ b. cond (not (is_continuation b)) 1 0) a b

pub row_length-append : (s t : Stream) → row_length (s ++ t) ≡ row_length s + row_length t
row_length-append s t =
    ap character_count (text_of-append s t) ∙ character_count-append (text_of s) (text_of t)

pub character_count-encode_utf8 : (c : ℕ) → character_count (encode_utf8 c) ≡ 1
unfolding encode_utf8
character_count-encode_utf8 c = grind (arith, nat_tests)

pub row_length-glyph : (c : ℕ) → row_length (glyph c) ≡ 1
row_length-glyph c =
    ap character_count (text_of-byte_stream (encode_utf8 c)) ∙ character_count-encode_utf8 c

pub row_length-style_mark : (m : StyleMark) → row_length (style_mark m) ≡ 0
row_length-style_mark m = ap character_count (text_of-style_mark m)

pub row_length-repeated : (n c : ℕ) → row_length (repeated n c) ≡ n
unfolding repeated
row_length-repeated zero c = refl
row_length-repeated (suc n) c =
    row_length-append (glyph c) (repeat n (glyph c))
    ∙ omega (arith, row_length-glyph c, row_length-repeated n c)

pub row_length-spaces : (n : ℕ) → row_length (spaces n) ≡ n
unfolding spaces byte_stream
row_length-spaces zero = refl
row_length-spaces (suc n) =
    row_length-append (byte_stream (32 ∷ [])) (spaces n) ∙ omega (arith, row_length-spaces n)
