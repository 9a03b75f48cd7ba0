use Rattle.codespan_core.proofs.Std.{◌≡◌, ◌∙◌, ap, map, sym, subst, refl, Err, [], inl}
use Rattle.codespan_core.proofs.Std.{err_from_is_err_and, string_bytes}
use Rattle.std.proofs.lemmas.Str.{IsUtf8-string_bytes}
use Rattle.codespan_core.proofs.KnownBytes.{extended-nil}
use Rattle.codespan_output.specs.Utf8Laws.{StreamIsUtf8}
use Rattle.codespan_suggestions.proofs.OutputTexts.{kept-output}
use Rattle.codespan_suggestions.specs.DrawnFiles.{NamesAreStated, context_of, drawn_files}
use Rattle.codespan_suggestions.specs.NamedFiles.{named_files_fault, IsFault}
use Rattle.codespan_suggestions.specs.Private.FileViews.{file_view}
use Rattle.codespan_suggestions.specs.SuggestionOutput.{output_of}
use Rattle.codespan_suggestions.proofs.emitting.emit_suggestion_to_write_style.Goals as goal

-- nothing is written where a file is not drawn
pub returns-in_err-drawn-clause-written : goal.returns-in_err-drawn-clause-written
returns-in_err-drawn-clause-written g c =
    let p = err_from_is_err_and c.from_residual.result c.from_residual.ensures.1 in
    let database = g.F.Files.database c.args.files.now in
    rw (p.1 ∙ ap Err p.2) (record {
      received = λ stated known. record {
        prefix = [];
        rest = _;
        whole = refl;
        contents = sym (extended-nil _);
      };
      on_end = inl (record {
        nothing = refl;
        fault = subst (λ es. IsFault (named_files_fault database es) c.in_err-drawn.field-0.0)
            c.deref.ensures.value c.in_err-drawn.ensures.failed;
      });
    })

-- what is written is the output of the files that are kept
pub returns-in-Ok-clause-utf8 : goal.returns-in-Ok-clause-utf8
returns-in-Ok-clause-utf8 g c = λ stated.
    let config = c.args.config.now in
    let database = g.F.Files.database c.args.files.now in
    let message = c.args.suggestion.now.message in
    let kept = c.in_ok-drawn.drawn.items in
    let shown = subst
    (λ edits. NamesAreStated database edits
    → map file_view kept ≡ drawn_files (context_of config) database edits)
    c.deref.ensures.value c.in_ok-drawn.ensures.files stated in
    subst (λ files. StreamIsUtf8 (output_of config (string_bytes message) files)) shown
    (kept-output config (string_bytes message) kept c.chars_are_scalars.ensures
    (IsUtf8-string_bytes message))
