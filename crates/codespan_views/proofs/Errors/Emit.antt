-- Where one of the lookups fails, the first one that does is known: for the clause `renders` of
-- `RichDiagnostic::render`.
use Rattle.codespan_core.proofs.Std.{◌≡◌, List, None}
use Rattle.codespan_core.specs.FileModel.{FileDatabase, Lookup}
use Rattle.codespan_output.specs.Lookups.{first_error}
use Rattle.codespan_views.specs.{SomeFails}
use Rattle.codespan_views.proofs.Errors.First.{all_succeed}

-- where one of these lookups fails, there is a first one
pub some_fails : {Id : Type 0} (files : FileDatabase Id) (ls : List (Id × Lookup))
    → first_error files.failure ls ≡ None → SomeFails files ls → ⊥
some_fails files ls h (error, p) =
    let succeeded = all_succeed files.failure ls h p.file_id p.lookup p.is_made in
    let fails = p.fails in cc
