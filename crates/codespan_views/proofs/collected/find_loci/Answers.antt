use Rattle.codespan_core.proofs.Std.{common_steps, ◌≡◌, get_or, ap, arith}
use Rattle.codespan_views.specs.Private.{RustFile, without_locus, locus_byte}
use Rattle.codespan_views.proofs.Annotations.IndexedElements.{IsElementAt}
use Rattle.codespan_views.proofs.Files.LociFound.{element-same, loci-count, loci-more}
use Rattle.codespan_views.proofs.collected.find_loci.Given.{Over}
use Rattle.codespan_views.proofs.collected.find_loci.Goals.{After-locus}
use Rattle.codespan_views.proofs.collected.find_loci.Goals as goal

-- the file at the index, as it is read
there : (g : Over) (c : After-locus g) {f : RustFile g.row.F-FileId.Denot}
    → f ≡ get_or c.loop-index.labeled_files.items c.loop-index.index f
    → IsElementAt c.loop-index.labeled_files.items c.loop-index.index f
there g c is = grind (arith, common_steps, loci-count)

-- the byte whose location is looked up is that of the file
byte_is : (g : Over) (c : After-locus g)
    → c.locus_byte-byte_index.result ≡ locus_byte c.index.result.now.least_starts
byte_is g c = grind (arith, common_steps, element-same, there)

pub loop-index-preserved : goal.loop-index-preserved
loop-index-preserved g c =
    let here = (goal.at.loop-index-preserved g c).After-locus in
    let at = there g here c.index.ensures in
    let same = element-same (there g here c.index_mut.ensures.value) at in
    let locus = rw (byte_is g here, ← same) at c.in_ok-labeled_files.ensures.locus in
    let failed = rw (byte_is g here) at c.in_ok-labeled_files.ensures.failed in
    loci-more c.loop-index.invariant at _ (ap without_locus same) locus failed
