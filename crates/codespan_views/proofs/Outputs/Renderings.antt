-- Rendering in rich style, what has been written for each way to end: for the clause `renders` of
-- `RichDiagnostic::render`.
use Rattle.codespan_core.proofs.Std.{◌≡◌, ◌≢◌, ◌<◌, List, ◌++◌, length, None}
use Rattle.codespan_core.proofs.Std.{Some, Ok, Err, Result, inl, inr, refl, ◌∙◌, arith}
use Rattle.codespan_core.proofs.Std.{⊎_elim, length-append, IfErr, Option, AllZip, common_steps}
use Rattle.codespan_core.specs.Errors.{IsIo}
use Rattle.codespan_core.specs.FileModel.{FileDatabase, Lookup}
use Rattle.codespan_core.specs.Streams.{Stream}
use Rattle.codespan_core.specs.WriterLaw.{Sink, PrefixWritten, Writes}
use Rattle.codespan_output.specs.Types.{Config, Diagnostic, Error, FormatError, OutOfMemory, Rich}
use Rattle.codespan_output.specs.OutputStreams.{NamesAreUtf8, files_of, labels_of, output}
use Rattle.codespan_output.specs.Picture.{stated_loci}
use Rattle.codespan_output.specs.Rows.{Locus}
use Rattle.codespan_output.specs.Lookups.{early_lookups, late_lookups, first_error}
use Rattle.codespan_output.specs.RichLaws.{IsOutput}
use Rattle.codespan_views.specs.{WritesStyled}
use Rattle.codespan_views.specs.Private.{FailedWithLookups, WritesWithLookups, IsLocusOfFile}
use Rattle.codespan_views.specs.Private.{late_failure}
use Rattle.codespan_core.proofs.Chains.{WrotePrefix}
use Rattle.codespan_core.proofs.KnownBytes.{extended-nil}
use Rattle.codespan_output.proofs.Outputs.Loci.{stated_are_loci}
use Rattle.codespan_output.proofs.Fitting.FittedStreams.{lawful-can}
use Rattle.codespan_output.proofs.Outputs.RichOutputs.{rich_output}
use Rattle.codespan_views.proofs.Errors.Emit.{some_fails}
use Rattle.codespan_views.proofs.Errors.First.{first_error-some, first_error-none, all_succeed}
use Rattle.codespan_views.proofs.Labels.Indexing.{AreFiles}
use Rattle.codespan_views.proofs.Outputs.OutputLoci.{file_loci, file_texts}

-- nothing has been written, which is a prefix of everything
pub PrefixWritten-none : (s : Sink) (items : Stream) (t : Sink) → t ≡ s
    → PrefixWritten s items t
PrefixWritten-none s items t same = grind (arith, common_steps, extended-nil)

-- an error is not both of these
two_errors : (e : Error) → e ≡ FormatError → e ≡ OutOfMemory → ⊥
two_errors e h m = cc

module _ {Id : Type 0} (view_config : Config) (files : FileDatabase Id) (d : Diagnostic Id) where
  -- the lookups before the header
  abbrev pub before_header : List (Id × Lookup)
  before_header = early_lookups files (labels_of d) view_config

  -- the lookups after it
  abbrev pub after_header : List (Id × Lookup)
  after_header = late_lookups files (labels_of d) view_config

  -- the error of the lookups before it
  abbrev pub early_failure : Option Error
  early_failure = first_error files.failure before_header

-- the stream is a rich output, with loci whose names are texts
pub record IsRichOutput {Id : Type 0} (renderer_config view_config : Config)
    (files : FileDatabase Id) (d : Diagnostic Id) (items : Stream) : Type 0 where
  pub is_output : IsOutput Rich renderer_config view_config files d items
  pub names_are_utf8 : NamesAreUtf8 is_output.loci

module _ {Id : Type 0} {renderer_config view_config : Config} {files : FileDatabase Id}
    {d : Diagnostic Id} where
  -- a rich output over lawful files, with loci of its snippets
  pub output_with : {items : Stream} (loci : List Locus) → AreFiles files
      → AllZip IsLocusOfFile (files_of files d) loci
      → items ≡ output Rich renderer_config view_config files d loci
      → IsRichOutput renderer_config view_config files d items
  output_with loci lawful are is = record {
    is_output = rich_output renderer_config view_config files d lawful.equivalence lawful.has_line
        (lawful-can renderer_config files lawful.lawful) loci (file_loci files d loci are) is;
    names_are_utf8 = file_texts files d loci are;
  }

  -- a lookup before the header failed: nothing has been written
  pub failed_early : {s : Sink} {e : Error} → AreFiles files
      → 0 < length (before_header view_config files d)
      → (e ≢ OutOfMemory → e ≢ FormatError → early_failure view_config files d ≡ Some e)
      → WritesStyled Rich renderer_config view_config files d s (Err e) s
  failed_early {s} {e} lawful some known = record {
    stream = _;
    is_output = rich_output renderer_config view_config files d lawful.equivalence lawful.has_line
        (lawful-can renderer_config files lawful.lawful)
        (stated_loci files d Rich) (stated_are_loci files d Rich) refl;
    received = λ are_known. PrefixWritten-none s _ s refl;
    on_end = record {
      error_is = inr (
        refl,
        (
          omega (
            arith,
            length-append (before_header view_config files d) (after_header view_config files d),
          ),
          λ p q. first_error-some files.failure (before_header view_config files d)
              (after_header view_config files d) e (known p q),
        ),
        λ h. inl refl,
      );
      early = λ rich p. refl;
    };
  }

  module _ {items : Stream} {old new : Sink}
      (succeeded : early_failure view_config files d ≡ None)
      (of : IsRichOutput renderer_config view_config files d items) where
    -- the writer failed
    failed_by_writer : {e : Error} → IsIo e → WrotePrefix old items new
        → WritesStyled Rich renderer_config view_config files d old (Err e) new
    failed_by_writer io wrote = record {
      stream = items;
      is_output = of.is_output;
      received = wrote.1;
      on_end = record {
        error_is = inl (io, wrote.0);
        early = λ rich p. absurd
            (some_fails files (before_header view_config files d) succeeded p);
      };
    }

    -- a lookup after the header failed
    failed_late : {e : Error} → 0 < length (after_header view_config files d)
        → FailedWithLookups (late_failure view_config files d) old items e new
        → WritesStyled Rich renderer_config view_config files d old (Err e) new
    failed_late {e} some failed = record {
      stream = items;
      is_output = of.is_output;
      received = failed.prefix;
      on_end = record {
        error_is = inr (
          failed.frame,
          (
            omega (
              arith,
              length-append (before_header view_config files d) (after_header view_config files d),
            ),
            λ p q. first_error-none files.failure (before_header view_config files d)
                (after_header view_config files d) succeeded ∙ failed.error_is p,
          ),
          λ h. inr (failed.error_is (λ (m : e ≡ OutOfMemory). two_errors e h m)),
        );
        early = λ rich p. absurd
            (some_fails files (before_header view_config files d) succeeded p);
      };
    }

    -- the output was written or cut short, and no lookup failed
    pub finished : (r : Result (Unit {0}) Error) → late_failure view_config files d ≡ None
        → Writes old items r new → IfErr r IsIo
        → WritesStyled Rich renderer_config view_config files d old r new
    finished (Ok x) succeeded_late wrote io = record {
      stream = items;
      is_output = of.is_output;
      received = wrote.1;
      on_end = (
        wrote.0,
        record {
          lookups_succeed = all_succeed files.failure
              (before_header view_config files d ++ after_header view_config files d)
              (first_error-none files.failure (before_header view_config files d)
              (after_header view_config files d) succeeded ∙ succeeded_late);
          names_are_utf8 = of.names_are_utf8;
        },
      );
    }
    finished (Err e) succeeded_late wrote io = failed_by_writer io wrote

    -- the output was rendered, with the lookups after its header, however that ended
    pub rendered : (r : Result (Unit {0}) Error) → 0 < length (after_header view_config files d)
        → WritesWithLookups (late_failure view_config files d) old items r new
        → WritesStyled Rich renderer_config view_config files d old r new
    rendered (Ok x) some run = finished (Ok x) run.ends.0 run.ends.1 tt
    rendered (Err e) some run =
        ⊎_elim (λ (w : IsIo e × WrotePrefix old items new). failed_by_writer w.0 w.1)
        (λ (w : FailedWithLookups (late_failure view_config files d) old items e new).
        failed_late some w) run.ends
