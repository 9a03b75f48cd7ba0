use Rattle.std.proofs.Common.{refl}
use Rattle.gallery_cases.specs.Words.{colors_named}
use Rattle.gallery_cases.proofs.words.parse_colors.Goals as goal

-- the colors of the word `svg`
pub returns-in-svg : goal.returns-in-svg
unfolding colors_named
returns-in-svg c = rw c.in-svg.is refl
