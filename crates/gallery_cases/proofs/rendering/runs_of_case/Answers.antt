use Rattle.std.proofs.Common.{refl}
use Rattle.codespan_base.specs.SimpleFileViews.{name_of, source_of}
use Rattle.codespan_base.specs.MappedFileViews.{mapped_name_of, mapped_source_of, set_numbers_of}
use Rattle.codespan_base.specs.SimpleFilesViews.{entries}
use Rattle.codespan_styled.specs.Runs.{styled_runs}
use Rattle.gallery_cases.specs.Documents.{AreRunsOver}
use Rattle.gallery_cases.proofs.OneFile.{ok_follows, over_one, over_several, over_mapped}
use Rattle.gallery_cases.proofs.Runs.{named_in_database}
use Rattle.gallery_cases.proofs.rendering.runs_of_case.Goals as goal

pub returns-in-One : goal.returns-in-One
returns-in-One c =
    let case = c.args.case.now in
    let files = c.in-One.files in
    let are = rw c.in-One.is at c.in_ok-database.ensures in
    ok_follows c.runs_over.result
    (λ text. over_one case (name_of files).now (source_of files).now c.in-One.diagnostic are.1
    (λ Id database diagnostic suggestions.
    AreRunsOver case.config database diagnostic suggestions (styled_runs text))
    are.0)
    (c.runs_over.ensures (λ id. refl))

pub returns-in-Several : goal.returns-in-Several
returns-in-Several c =
    let case = c.args.case.now in
    let files = c.in-Several.files in
    let are = rw c.in-Several.is at c.in_ok-database.ensures in
    ok_follows c.runs_over-in-Several.result
    (λ text. over_several case (entries files)
    (λ Id database diagnostic suggestions.
    AreRunsOver case.config database diagnostic suggestions (styled_runs text))
    are.0 are.1)
    (rw c.deref.ensures.value at
    (c.runs_over-in-Several.ensures (named_in_database (entries files))))

pub returns : goal.returns
returns c =
    let case = c.args.case.now in
    let files = c.in-Mapped.files in
    let are = rw c.in-Mapped.is at c.in_ok-database.ensures in
    ok_follows c.runs_over-in-Mapped.result
    (λ text. over_mapped case (mapped_name_of files).now (mapped_source_of files).now
    c.in-Mapped.diagnostic are.1
    (λ Id database diagnostic suggestions.
    AreRunsOver case.config database diagnostic suggestions (styled_runs text))
    are.0
    (set_numbers_of files) are.2)
    (c.runs_over-in-Mapped.ensures (λ id. refl))
