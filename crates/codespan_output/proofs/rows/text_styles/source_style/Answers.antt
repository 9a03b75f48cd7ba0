use Rattle.codespan_core.proofs.Std.{◌≡◌, Bool, true, false, None, Some, refl, sym, ◌∙◌}
use Rattle.codespan_core.proofs.Std.{◌||◌, ◌&&◌, if◌then◌else◌, list_any}
use Rattle.codespan_core.proofs.Std.{false≢true}
use Rattle.std.specs.Option.{option_eq}
use Rattle.codespan_core.specs.Labels.{LaneMark, is_primary, is_primary_style}
use Rattle.codespan_output.specs.Types.{Metrics}
use Rattle.codespan_output.specs.{covers, multi_label_covers, source_style, Line, LabelStyle}
use Rattle.codespan_output.specs.{Primary, Secondary}
use Rattle.codespan_output.specs.Private.{line_view}
use Rattle.codespan_output.proofs.rows.text_styles.source_style.Goals.{then-eq, else-eq}
use Rattle.codespan_output.proofs.rows.text_styles.source_style.Goals as goal

-- the style under a character is primary where a primary label covers it
primary-seen : (eq : LabelStyle → LabelStyle → Bool) (inside any seen : Bool)
    → eq Primary Primary ≡ true → eq Secondary Primary ≡ false
    → seen ≡ option_eq eq
    (if inside then Some Primary else if any then Some Secondary else None)
    (Some Primary)
    → seen ≡ inside
primary-seen eq true any seen same other e = e ∙ same
primary-seen eq false true seen same other e = e ∙ other
primary-seen eq false false seen same other e = e

-- the style, by whether a primary label inside the line covers the character, and whether a
-- multi-line one does
styled : (line : Line) (c : Metrics) (inside marked : Bool)
    → inside ≡ list_any (λ x. is_primary x && covers x c) line.labels
    → marked ≡ list_any
    (λ (m : LaneMark). is_primary_style m.style && multi_label_covers c m.multi_label)
    line.lanes.lane_marks
    → (if inside || marked then Some Primary else None) ≡ source_style line c
styled line c inside marked same_inside same_marked = rw (same_inside, same_marked) refl

pub returns-then-covers_char-clause-style : goal.returns-then-covers_char-clause-style
returns-then-covers_char-clause-style g c =
    let line = line_view c.args.line in
    let inside = primary-seen _ _ _ _ refl refl
    (rw (c.style_under.ensures.style, c.requires.labels) at c.eq.ensures) in
    let marked = c.requires.primary c.args.metrics c.requires.has_byte in
    elim c.if-eq.branch [
      | then-eq w ↦ styled line c.args.metrics true _ (sym w.if-eq.true ∙ inside) refl
      | else-eq w ↦
          styled line c.args.metrics false true (sym w.if-eq.false ∙ inside)
          (sym c.if-covers_char.true ∙ w.value-is ∙ w.covers_char.ensures ∙ marked)
    ]

pub returns-else-covers_char-clause-style : goal.returns-else-covers_char-clause-style
returns-else-covers_char-clause-style g c =
    let line = line_view c.args.line in
    let inside = primary-seen _ _ _ _ refl refl
    (rw (c.style_under.ensures.style, c.requires.labels) at c.eq.ensures) in
    let marked = c.requires.primary c.args.metrics c.requires.has_byte in
    elim c.if-eq.branch [
      | then-eq w ↦ absurd
          (false≢true (sym c.if-covers_char.false ∙ w.value-is ∙ w.if-eq.true))
      | else-eq w ↦
          styled line c.args.metrics false false (sym w.if-eq.false ∙ inside)
          (sym c.if-covers_char.false ∙ w.value-is ∙ w.covers_char.ensures ∙ marked)
    ]
