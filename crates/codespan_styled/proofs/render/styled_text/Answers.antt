use Rattle.std.proofs.Common.{rules, inl, subst, sym, ◌∙◌}
use Rattle.codespan_base.specs.declared.files.Error.{Error}
use Rattle.codespan_base.specs.LawfulFiles.{IsLawful}
use Rattle.codespan_views.specs.Output.{IsEmitError}
use Rattle.codespan_styled.proofs.Rendering.{error_emitted, memory_error, runs_emitted}
use Rattle.codespan_styled.proofs.render.styled_text.Goals.{then-has_failed, else-has_failed}
use Rattle.codespan_styled.proofs.render.styled_text.Goals as goal

pub returns-in-Ok-clause-ok : goal.returns-in-Ok-clause-ok
returns-in-Ok-clause-ok g c =
    let file = ((g.F.Files.database c.args.files.now).file) in
    let claim : g.claim c.lifetimes = search rules in
    let lawful : (id : g.row.F-FileId.Denot) → IsLawful (file id) =
    λ id. (g.met.F.Files c.lifetimes claim).lawful c.args.files.now id in
    runs_emitted c.into_text.result c.in-Ok.ensures c.new-recorder.ensures
    c.chars_are_scalars.ensures lawful c.into_text.ensures.runs

pub returns-in-Ok-clause-err : goal.returns-in-Ok-clause-err
returns-in-Ok-clause-err g c =
    memory_error c.args.config.now (g.F.Files.database c.args.files.now) c.args.diagnostic.now
    c.into_text.result c.into_text.ensures.error

-- the error is `OutOfMemory` where the writer has failed, and else one of lookups
pub returns-after-has_failed-clause-err : goal.returns-after-has_failed-clause-err
returns-after-has_failed-clause-err g c =
    let IsError : Error → Type 0 =
    IsEmitError c.args.config.now (g.F.Files.database c.args.files.now) c.args.diagnostic.now in
    elim c.if-has_failed.branch [
      | then-has_failed w ↦ inl w.result-is
      | else-has_failed w ↦ subst IsError (sym w.result-is)
          (error_emitted c.in-Err.error c.in-Err.ensures
          (sym c.has_failed.ensures ∙ w.if-has_failed.false))
    ]
