-- The glyphs of a `text` element are shown in their order: for `svg::laws::texts_keep_order`.
use Rattle.std.proofs.Common.{◌≡◌, true, false, List, [], ◌∷◌, refl}
use Rattle.std.specs.Prelude.{Bool, ◌==◌, ◌&&◌, ◌||◌, not}
use Rattle.std.specs.List.{AllByRecursion}
use Rattle.std.proofs.lemmas.Bool.{and_parts, cond_both}
use Rattle.codespan_base.specs.declared.term.config.styles.Styles.{Styles}
use Rattle.codespan_styled.specs.declared.svg.glyph.Glyph.{Glyph}
use Rattle.codespan_styled.specs.declared.svg.Pen.{Pen}
use Rattle.codespan_styled.specs.Glyphs.{cells_of, follows, glyphs_of, is_narrow, is_white_space}
use Rattle.codespan_styled.specs.Glyphs.{joins, keeps_order, runs_left}
use Rattle.codespan_styled.specs.Inks.{same_ink}
use Rattle.codespan_styled.specs.Runs.{RunView}
use Rattle.codespan_styled.specs.Svg.{first_pen, next_pen}
use Rattle.codespan_styled.specs.SvgReading.{KeepsOrder, is_right_to_left_letter}
use Rattle.codespan_styled.specs.SvgReading.{joined_glyphs, pieces_from}
use Rattle.codespan_styled.proofs.UnsafeCells.{number_of}

-- ---- two glyphs

-- the glyphs that join keep their order
joins_keep_order : (before glyph : Glyph) → joins before glyph ≡ true
    → keeps_order before glyph ≡ true
joins_keep_order before glyph e =
    (and_parts (is_narrow before && is_narrow glyph && same_ink before.ink glyph.ink)
    (keeps_order before glyph) e).1

-- the second is no letter of a right-to-left script
no_letter : (first second empty : Bool)
    → (not (first || second) || (second && empty)) ≡ true → (second && not empty) ≡ false
no_letter first false empty e = refl
no_letter first true true e = refl
no_letter true true false e = cc
no_letter false true false e = cc

-- after a glyph of a right-to-left script it is a mark of one
is_mark : (first second empty : Bool)
    → (not (first || second) || (second && empty)) ≡ true → first ≡ true
    → (second ≡ true) × (empty ≡ true)
is_mark true true true e h = (refl, refl)
is_mark true true false e h = cc
is_mark true false empty e h = cc
is_mark false second empty e h = cc

-- ---- the glyphs that follow in a `text` element

abbrev IsNoLetter : Glyph → Type 0
IsNoLetter glyph = is_right_to_left_letter glyph ≡ false

abbrev IsEmpty : Glyph → Type 0
IsEmpty glyph = cells_of glyph ≡ 0

-- none is a letter of a right-to-left script
followers : (before : Glyph) (glyphs : List Glyph)
    → AllByRecursion IsNoLetter (joined_glyphs before glyphs)
followers before [] = tt
followers before (glyph ∷ glyphs) =
    cond_both (joins before glyph) _ _ (AllByRecursion IsNoLetter)
    (λ e. (
      no_letter (runs_left before) (runs_left glyph) (cells_of glyph == 0)
          (joins_keep_order before glyph e),
      followers glyph glyphs,
    ))
    (λ _. tt)

-- after one they occupy no cell
marks : (before : Glyph) (glyphs : List Glyph) → runs_left before ≡ true
    → AllByRecursion IsEmpty (joined_glyphs before glyphs)
marks before [] h = tt
marks before (glyph ∷ glyphs) h =
    cond_both (joins before glyph) _ _ (AllByRecursion IsEmpty)
    (λ e. let mark = is_mark (runs_left before) (runs_left glyph) (cells_of glyph == 0)
    (joins_keep_order before glyph e) h in
    (number_of (cells_of glyph) 0 mark.1, marks glyph glyphs mark.0))
    (λ _. tt)

-- ---- pieces

pieces_keep_order : (pen : Pen) (glyphs : List Glyph)
    → AllByRecursion KeepsOrder (pieces_from pen glyphs)
pieces_keep_order pen [] = tt
pieces_keep_order pen (glyph ∷ glyphs) =
    let others : AllByRecursion KeepsOrder (pieces_from (next_pen pen glyph) glyphs) =
    pieces_keep_order (next_pen pen glyph) glyphs in
    cond_both (is_white_space glyph) _ _ (AllByRecursion KeepsOrder) (λ _. (tt, others))
    (λ _. cond_both (follows pen.before glyph) _ _ (AllByRecursion KeepsOrder) (λ _. others)
    (λ _. (
      (
        followers glyph glyphs,
        λ letter. marks glyph glyphs
            (and_parts (runs_left glyph) (not (cells_of glyph == 0)) letter).0,
      ),
      others,
    )))

-- all pieces of the glyphs of runs
pub runs_keep_order : (styles : Styles) (runs : List RunView)
    → AllByRecursion KeepsOrder (pieces_from first_pen (glyphs_of styles runs))
runs_keep_order styles runs = pieces_keep_order first_pen (glyphs_of styles runs)
