-- What each row is read as, for the clause of `laws::sources_and_output_give_texts`.
use Rattle.codespan_core.proofs.Std.{◌≡◌, ◌∙◌, ℕ, ◌/◌, true}
use Rattle.codespan_core.proofs.Std.{List, [], ◌∷◌, ◌++◌, length, take, drop}
use Rattle.codespan_core.proofs.Std.{flat_map, refl, sym, ap, codes}
use Rattle.codespan_core.proofs.Std.{append-nil, AllByRecursion}
use Rattle.codespan_core.proofs.Std.{Option, Some, None, true≢false, encode_utf8}
use Rattle.codespan_core.proofs.Std.{◌⊎◌, ⊎_elim}
use Rattle.codespan_core.specs.SnippetStarts.{start_text}
use Rattle.codespan_output.specs.Types.{Chars}
use Rattle.codespan_edits.specs.declared.rows.RowSign.{RowSign}
use Rattle.codespan_edits.specs.declared.rows.RowSign.TheVariants.{Kept, Removed, Added}
use Rattle.codespan_suggestions.specs.DrawnText.{end_text, escaped}
use Rattle.codespan_suggestions.specs.ReadOutput.{after_bytes, is_gutter, gutter_of, after_gutter}
use Rattle.codespan_suggestions.specs.ReadOutput.{number_among, unescaped}
use Rattle.codespan_suggestions.specs.ReadOutput.{end_stated, bordered_read, row_read}
use Rattle.codespan_suggestions.specs.ReadOutput.RowRead.{FileStart, LineShown, OtherRow}
use Rattle.codespan_suggestions.specs.ReadableChars.{EndsGutter, are_apart}
use Rattle.codespan_suggestions.specs.ReadableChars.{AreReadable}
use Rattle.codespan_suggestions.proofs.ReadLemmas.{after-bytes, after-apart, gutter-read}
use Rattle.codespan_suggestions.proofs.ReadLemmas.{after-gutter, number_cells, HasCells}
use Rattle.codespan_suggestions.proofs.ReadLemmas.{number-read, cells-length, cells-gutter}
use Rattle.codespan_suggestions.proofs.ReadLemmas.{left-half, right-half, gutter-append}

-- ---- ends

-- a byte of a line's end
abbrev pub IsEndByte : ℕ → Type 0
IsEndByte b = ((b ≡ 10) ⊎ (b ≡ 13)) ⊎ (b ≡ 0)

escape-back : (b : ℕ) (rest : List ℕ) → IsEndByte b
    → unescaped (escaped b ++ rest) ≡ b ∷ unescaped rest
escape-back b rest is =
    ⊎_elim (λ two. ⊎_elim (λ h. rw h refl) (λ h. rw h refl) two) (λ h. rw h refl) is

escapes-back : (end : List ℕ) → AllByRecursion IsEndByte end
    → unescaped (flat_map escaped end) ≡ end
escapes-back [] all = refl
escapes-back (b ∷ bs) all =
    escape-back b (flat_map escaped bs) all.0 ∙ ap (λ xs. b ∷ xs) (escapes-back bs all.1)

pub end-back : (end : List ℕ) → AllByRecursion IsEndByte end → end_stated (end_text end) ≡ end
end-back [] all = refl
end-back (b ∷ bs) all = escapes-back (b ∷ bs) all

-- ---- rows

-- what ends a gutter still does with more text
ends-more : (start bs text : List ℕ) → are_apart start bs ≡ true → EndsGutter bs
    → EndsGutter (bs ++ text)
ends-more [] [] text apart ends = absurd (true≢false (sym apart))
ends-more (c ∷ cs) [] text apart ends = absurd (true≢false (sym apart))
ends-more start (b ∷ bs) text apart ends = ends

ends-start : (start bs text : List ℕ) → are_apart start bs ≡ true → EndsGutter start
    → EndsGutter (start ++ text)
ends-start [] bs text apart ends = absurd (true≢false (sym apart))
ends-start (b ∷ bs) cs text apart ends = ends

-- the sign of a row, between two spaces
abbrev pub sign_bytes : RowSign → List ℕ
sign_bytes Kept = codes "   "
sign_bytes Removed = codes " - "
sign_bytes Added = codes " + "

module _ (chars : Chars) (ok : AreReadable chars) where
  abbrev border : List ℕ
  border = encode_utf8 chars.source_border_left

  abbrev start : List ℕ
  start = start_text chars.snippet_start

  module _ (gutter : List ℕ) (all : AllByRecursion (λ b. is_gutter b ≡ true) gutter) where
    pub start-read : (text : List ℕ) → row_read chars (gutter ++ (start ++ text)) ≡ FileStart
    start-read text =
        let ends = ends-start start border text ok.border.apart ok.start in
        let found : after_bytes start (after_gutter (gutter ++ (start ++ text))) ≡ Some text =
        ap (after_bytes start) (after-gutter gutter (start ++ text) all ends)
        ∙ after-bytes start text in
        rw found refl

    pub bordered : (text : List ℕ)
        → row_read chars (gutter ++ (border ++ text)) ≡ bordered_read gutter text
    bordered text =
        let ends = ends-more start border text ok.border.apart ok.border.ends_gutter in
        let after = after-gutter gutter (border ++ text) all ends in
        let none : after_bytes start (after_gutter (gutter ++ (border ++ text))) ≡ None =
        ap (after_bytes start) after ∙ after-apart start border text ok.border.apart in
        let found : after_bytes border (after_gutter (gutter ++ (border ++ text))) ≡ Some text =
        ap (after_bytes border) after ∙ after-bytes border text in
        let left : gutter_of (gutter ++ (border ++ text)) ≡ gutter =
        gutter-read gutter (border ++ text) all ends in
        rw (none, found, left) refl

    pub break-read : row_read chars
        (gutter ++ encode_utf8 chars.source_border_left_break) ≡ OtherRow
    break-read =
        let break = encode_utf8 chars.source_border_left_break in
        let after : after_gutter (gutter ++ break) ≡ break =
        after-gutter gutter break all ok.break.ends_gutter in
        let none : after_bytes start (after_gutter (gutter ++ break)) ≡ None =
        ap (after_bytes start) (after ∙ sym (append-nil break))
        ∙ after-apart start break [] ok.break.apart in
        let other : after_bytes border (after_gutter (gutter ++ break)) ≡ None =
        ap (after_bytes border) (after ∙ sym (append-nil break))
        ∙ after-apart border break [] ok.distinct in
        rw (none, other) refl

  -- a row without bytes
  pub final-read : row_read chars [] ≡ OtherRow
  final-read =
      let none : after_bytes start [] ≡ None = by start border ok.border.apart in
      let other : after_bytes border [] ≡ None =
      by border (encode_utf8 chars.source_border_left_break) ok.distinct in
      rw (none, other) refl
    where
      by : (bs cs : List ℕ) → are_apart bs cs ≡ true → after_bytes bs [] ≡ None
      by [] cs apart = absurd (true≢false (sym apart))
      by (b ∷ bs) cs apart = refl

  module _ (padding : ℕ) (o n : Option ℕ) (has : HasCells padding o) (holds : HasCells padding n)
    where
      abbrev cells : List ℕ
      cells = number_cells padding o ++ number_cells padding n

      cells-are : AllByRecursion (λ b. is_gutter b ≡ true) cells
      cells-are =
          gutter-append (number_cells padding o) (number_cells padding n)
          (cells-gutter padding o has) (cells-gutter padding n holds)

      same-length : length (number_cells padding o) ≡ length (number_cells padding n)
      same-length = cells-length padding o has ∙ sym (cells-length padding n holds)

      old-read : number_among (take (length cells / 2) cells) ≡ o
      old-read =
          ap number_among (left-half (number_cells padding o) (number_cells padding n) same-length)
          ∙ number-read padding o has

      new-read : number_among (drop (length cells / 2) cells) ≡ n
      new-read =
          ap number_among (right-half (number_cells padding o) (number_cells padding n) same-length)
          ∙ number-read padding n holds

      -- the row of a line
      pub line-read : (sign : RowSign) (text : List ℕ)
          → row_read chars (cells ++ (border ++ (sign_bytes sign ++ text)))
          ≡ LineShown
          (record { sign = sign; old_number = o; new_number = n; text = text })
      line-read sign text =
          bordered cells cells-are (sign_bytes sign ++ text) ∙ by sign
        where
          by : (sign : RowSign) → bordered_read cells (sign_bytes sign ++ text)
              ≡ LineShown (record { sign = sign; old_number = o; new_number = n; text = text })
          by Kept = rw (old-read, new-read) refl
          by Removed = rw (old-read, new-read) refl
          by Added = rw (old-read, new-read) refl
