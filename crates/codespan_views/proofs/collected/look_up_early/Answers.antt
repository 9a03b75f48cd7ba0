use Rattle.codespan_core.proofs.Std.{◌≡◌, arith, common_steps, err_from_is_err_and}
use Rattle.codespan_output.specs.Lookups.{first_error}
use Rattle.codespan_views.specs.Private.{early_failure, locus_lookups_of_files}
use Rattle.codespan_views.proofs.Errors.First.{first_error-none, first_error-some}
use Rattle.codespan_views.proofs.collected.look_up_early.Given.{Over}
use Rattle.codespan_views.proofs.collected.look_up_early.Goals.{Joined-layout}
use Rattle.codespan_views.proofs.collected.look_up_early.Goals as goal

pub returns-in_err-find_numbers-clause-failed : goal.returns-in_err-find_numbers-clause-failed
returns-in_err-find_numbers-clause-failed g c = grind
    (arith, common_steps, err_from_is_err_and, first_error-some)

-- no lookup of a number failed, so those of the loci decide
loci_decide : (g : Over) (c : Joined-layout g)
    → let failure = (g.F.Files.database c.args.files.now).failure in
    early_failure c.args.layout failure c.args.collected.now
    ≡ first_error failure (locus_lookups_of_files c.match-layout.collected.files.items)
loci_decide g c = grind (arith, common_steps, first_error-none)

pub returns-in_err-find_loci-clause-failed : goal.returns-in_err-find_loci-clause-failed
returns-in_err-find_loci-clause-failed g c = grind
    (arith, common_steps, err_from_is_err_and, loci_decide)

pub returns-clause-failed : goal.returns-clause-failed
returns-clause-failed g c = grind (arith, common_steps, loci_decide)
