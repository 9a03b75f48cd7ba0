use Rattle.std.proofs.Common.{◌≡◌, ◌+◌, [], ◌++◌, ap, append-nil, string_bytes, sym}
use Rattle.std.proofs.Common.{◌∙◌}
use Rattle.std.specs.Prelude.{if◌then◌else◌}
use Rattle.codespan_styled.specs.Glyphs.{cells_of, follows, joined_cells}
use Rattle.codespan_styled.specs.Svg.{text_tag}
use Rattle.codespan_styled.proofs.Glyphs.{glyph-written}
use Rattle.codespan_styled.proofs.svg.push_glyph.Goals.{In_ok-push_character}
use Rattle.codespan_styled.proofs.svg.push_glyph.Goals.{then-not-follows+in_ok-push_tag}
use Rattle.codespan_styled.proofs.svg.push_glyph.Goals.{else-not-follows}
use Rattle.codespan_styled.proofs.svg.push_glyph.Goals as goal

-- the tag of the text that begins with the glyph, if one does
tagged : (c : In_ok-push_character) → string_bytes c.if-not-follows.document
    ≡ string_bytes c.args.document.now ++ (if follows c.args.pen.before c.args.glyph then []
    else text_tag c.args.pen.position
    (cells_of c.args.glyph + joined_cells c.args.glyph c.args.others.now) c.args.glyph.ink)
tagged c = elim c.if-not-follows.branch [
  | then-not-follows+in_ok-push_tag w ↦
      rw (
        ← c.follows.ensures,
        w.if-not-follows.true,
        ← w.cells.ensures.value,
        ←
            w.joined_cells.ensures.value,
      )
      (ap string_bytes w.document-is ∙ w.in_ok-push_tag.ensures)
  | else-not-follows w ↦ rw (← c.follows.ensures, w.if-not-follows.false)
      (ap string_bytes w.document-is ∙ sym (append-nil _))
]

-- the glyph is the last one of its text
pub returns-in_ok-push_str : goal.returns-in_ok-push_str
returns-in_ok-push_str c =
    glyph-written c.args.pen c.args.glyph c.args.others.now _ _ _ _
    (sym c.if-is_white_space.ensures)
    (tagged (goal.at.returns-in_ok-push_str c).In_ok-push_character)
    c.in_ok-push_character.ensures
    (rw (← c.if-not-joins_next.ensures) c.in_ok-push_str.ensures.bytes)

-- the text of the glyph goes on
pub returns-else-not-joins_next : goal.returns-else-not-joins_next
returns-else-not-joins_next c =
    glyph-written c.args.pen c.args.glyph c.args.others.now _ _ _
    (string_bytes c.push_character.new.document) (sym c.if-is_white_space.ensures)
    (tagged (goal.at.returns-else-not-joins_next c).In_ok-push_character)
    c.in_ok-push_character.ensures
    (rw (← c.if-not-joins_next.ensures) (sym (append-nil _)))

-- white space is written as itself
pub returns-then-is_white_space : goal.returns-then-is_white_space
returns-then-is_white_space c =
    rw (← c.if-is_white_space.ensures) c.in_ok-push.ensures.bytes
