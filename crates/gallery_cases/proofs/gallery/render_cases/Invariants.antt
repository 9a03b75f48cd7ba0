use Rattle.std.proofs.Common.{take}
use Rattle.gallery_cases.specs.Galleries.{IsGallery}
use Rattle.gallery_cases.proofs.gallery.render_cases.Given as goal

abbrev pub invariant-loop-case : goal.invariant-loop-case
invariant-loop-case l = IsGallery (take l.case-index l.cases) l.gallery.items
