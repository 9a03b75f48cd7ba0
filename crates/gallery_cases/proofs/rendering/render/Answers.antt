use Rattle.codespan_base.specs.SimpleFileViews.{name_of, source_of}
use Rattle.codespan_base.specs.MappedFileViews.{mapped_name_of, mapped_source_of, set_numbers_of}
use Rattle.std.proofs.Common.{refl}
use Rattle.codespan_base.specs.SimpleFilesViews.{entries}
use Rattle.gallery_cases.specs.CaseOutputs.{AreRendered}
use Rattle.gallery_cases.proofs.OneFile.{done_follows, over_one, over_several, over_mapped}
use Rattle.gallery_cases.proofs.Runs.{named_in_database}
use Rattle.gallery_cases.proofs.rendering.render.Goals as goal

pub returns-in-One : goal.returns-in-One
returns-in-One c = λ plain.
    let case = c.args.case.now in
    let files = c.in-One.files in
    let are = rw c.in-One.is at c.in_ok-database.ensures in
    done_follows c.render_all.result
    (λ added. (
      added.0,
      added.1,
      over_one case (name_of files).now (source_of files).now c.in-One.diagnostic are.1
          (λ Id database diagnostic suggestions.
          AreRendered case.config database diagnostic suggestions added.0) are.0
          added.2,
    ))
    (c.render_all.ensures (λ id. refl) plain)

pub returns-in-Several : goal.returns-in-Several
returns-in-Several c = λ plain.
    let case = c.args.case.now in
    let files = c.in-Several.files in
    let are = rw c.in-Several.is at c.in_ok-database.ensures in
    done_follows c.render_all-in-Several.result
    (λ added. (
      added.0,
      added.1,
      over_several case (entries files)
          (λ Id database diagnostic suggestions.
          AreRendered case.config database diagnostic suggestions added.0) are.0 are.1 added.2,
    ))
    (rw c.deref.ensures.value at
    (c.render_all-in-Several.ensures (named_in_database (entries files)) plain))

pub returns : goal.returns
returns c = λ plain.
    let case = c.args.case.now in
    let files = c.in-Mapped.files in
    let are = rw c.in-Mapped.is at c.in_ok-database.ensures in
    done_follows c.render_all-in-Mapped.result
    (λ added. (
      added.0,
      added.1,
      over_mapped case (mapped_name_of files).now (mapped_source_of files).now
          c.in-Mapped.diagnostic are.1
          (λ Id database diagnostic suggestions.
          AreRendered case.config database diagnostic suggestions added.0) are.0
          (set_numbers_of files) are.2 added.2,
    ))
    (c.render_all-in-Mapped.ensures (λ id. refl) plain)
