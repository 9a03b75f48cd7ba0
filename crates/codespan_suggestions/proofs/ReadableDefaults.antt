-- For the clause of `laws::default_characters_are_readable`.
use Rattle.codespan_core.proofs.Std.{◌≡◌, ℕ, List, refl, sym, subst, ap, codes, true, encode_utf8}
use Rattle.codespan_core.proofs.Std.{encode_utf8_all, ⊎_elim}
use Rattle.codespan_core.specs.Characters.{box_drawing, ascii}
use Rattle.codespan_core.specs.ConfigEquality.{IsEqualChars}
use Rattle.codespan_core.specs.SnippetStarts.{start_text}
use Rattle.codespan_output.specs.Types.{Chars}
use Rattle.codespan_suggestions.specs.ReadableChars.{AreReadable, IsReadableBorder, IsOneRow}
use Rattle.codespan_suggestions.specs.ReadableChars.{EndsGutter, are_apart}
use Rattle.codespan_suggestions.specs.ReadingLaws.{DefaultCharactersAreReadable}
use Rattle.codespan_suggestions.proofs.ReadFits.{one-by}

-- characters by what they have to be
readable : (chars : Chars) (start : List ℕ) (border break : ℕ)
    → start ≡ start_text chars.snippet_start → border ≡ chars.source_border_left
    → break ≡ chars.source_border_left_break → IsOneRow start → EndsGutter start
    → IsReadableBorder start border → IsReadableBorder start break
    → are_apart (encode_utf8 border) (encode_utf8 break) ≡ true → AreReadable chars
readable chars start border break ps pb pk one ends left over apart = record {
  start_row = subst IsOneRow ps one;
  start = subst EndsGutter ps ends;
  border =
      subst (λ s. IsReadableBorder s chars.source_border_left) ps
      (subst (IsReadableBorder start) pb left);
  break =
      subst (λ s. IsReadableBorder s chars.source_border_left_break) ps
      (subst (IsReadableBorder start) pk over);
  distinct =
      subst (λ c. are_apart (encode_utf8 c) (encode_utf8 chars.source_border_left_break) ≡ true)
      pb
      (subst (λ c. are_apart (encode_utf8 border) (encode_utf8 c) ≡ true) pk apart);
}

box-readable : (chars : Chars) → IsEqualChars box_drawing chars → AreReadable chars
unfolding encode_utf8
box-readable chars equal =
    let start = encode_utf8_all (codes "┌─") in
    readable chars start 0x2502 0xb7 (sym equal.start)
    (sym (ap (λ (c : Chars). c.source_border_left) equal.others))
    (sym (ap (λ (c : Chars). c.source_border_left_break) equal.others)) (one-by start refl) refl
    (record { one_row = one-by (encode_utf8 0x2502) refl; ends_gutter = refl; apart = refl })
    (record { one_row = one-by (encode_utf8 0xb7) refl; ends_gutter = refl; apart = refl })
    refl

ascii-readable : (chars : Chars) → IsEqualChars ascii chars → AreReadable chars
unfolding encode_utf8
ascii-readable chars equal =
    let start = codes "-->" in
    readable chars start 0x7c 0x2e (sym equal.start)
    (sym (ap (λ (c : Chars). c.source_border_left) equal.others))
    (sym (ap (λ (c : Chars). c.source_border_left_break) equal.others)) (one-by start refl) refl
    (record { one_row = one-by (encode_utf8 0x7c) refl; ends_gutter = refl; apart = refl })
    (record { one_row = one-by (encode_utf8 0x2e) refl; ends_gutter = refl; apart = refl }) refl

pub default-characters-are-readable : DefaultCharactersAreReadable
default-characters-are-readable chars equal =
    ⊎_elim (box-readable chars) (ascii-readable chars) equal
