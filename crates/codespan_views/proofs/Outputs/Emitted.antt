-- Emitting an output as text, for the clauses of `emit_into_string` and `emit_to_io_write`.
use Rattle.codespan_core.proofs.Std.{◌≡◌, ℕ, true, List, [], ◌∷◌, Option, Some, Ok}
use Rattle.codespan_core.proofs.Std.{Err, Result, ⊎_elim, inl, inr, refl, sym, subst, ap}
use Rattle.codespan_core.proofs.Std.{◌∙◌, IsUtf8, arith, common_steps}
use Rattle.std.specs.Borrow.{GName}
use Rattle.codespan_core.specs.FileModel.{FileDatabase}
use Rattle.codespan_core.specs.LawfulFiles.{IsLawful}
use Rattle.codespan_core.specs.Streams.{Stream, Spelling, spelled, text_of, plain_spelling}
use Rattle.codespan_core.specs.WriterLaw.{Frame, Sink, with_written, is_known, are_known, extended}
use Rattle.codespan_core.specs.WriterLaw.{PrefixWritten, PrefixAppended}
use Rattle.codespan_core.specs.Writers.{fresh_plain_ref_sink, fresh_sink, plain_reference}
use Rattle.codespan_core.specs.Writers.{plain_ref_sink, borrowed_writer}
use Rattle.codespan_core.specs.declared.term.config.plain_ref.PlainWriterRef.{PlainWriterRef}
use Rattle.codespan_output.specs.Types.{DisplayStyle, Rich, Medium, Short, Config, Diagnostic}
use Rattle.codespan_output.specs.Types.{Error}
use Rattle.codespan_output.specs.Rows.{Locus}
use Rattle.codespan_output.specs.Utf8Laws.{CharsAreScalars}
use Rattle.codespan_views.specs.{FailsAtLabel, WrittenBefore, IsRendered, TextMeansLabels}
use Rattle.codespan_views.specs.{WritesStyled, WritesText}
use Rattle.codespan_output.proofs.Utf8.Outputs.{text-output}
use Rattle.codespan_core.proofs.Writes.{spelled-plain}

-- a plain writer that was empty and received a stream has its text
written_text : {old new : Sink} {bytes : List ℕ} (s : Stream)
    → old ≡ fresh_sink plain_spelling (Some []) → new.contents ≡ Some bytes
    → (is_known old ≡ true → new ≡ with_written old s) → bytes ≡ text_of s
unfolding with_written is_known are_known extended
written_text {old} {new} {bytes} s fresh contents written =
    let now = written (ap is_known fresh) ∙ ap (λ (x : Sink). with_written x s) fresh in
    let whole : Some bytes ≡ Some (spelled plain_spelling s) = sym contents
    ∙ ap (λ (x : Sink). x.contents) now in
    let same : bytes ≡ spelled plain_spelling s = cc in
    same ∙ spelled-plain s

-- a stream that was written to a writer that spells style marks as nothing was written as its text
text_written : (old new : Sink) (s : Stream) → old.frame.spelling ≡ plain_spelling
    → new ≡ with_written old s → new.contents ≡ extended old.contents (text_of s)
unfolding with_written
text_written old new s plain written =
    ap (λ (x : Sink). x.contents) written
    ∙ ap (λ (spelling : Spelling). extended old.contents (spelled spelling s)) plain
    ∙ ap (extended old.contents) (spelled-plain s)

-- and a prefix of one, as a prefix of its text
text_prefix : (old new : Sink) (s : Stream) → old.frame.spelling ≡ plain_spelling
    → PrefixWritten old s new → PrefixAppended old.contents (text_of s) new.contents
text_prefix old new s plain p =
    record {
      prefix =
          p.prefix;
      rest =
          p.rest;
      whole =
          p.whole ∙ ap (λ (spelling : Spelling). spelled spelling s) plain ∙ spelled-plain s;
      contents = p.contents;
    }

-- the headers that have been written before a lookup for a label's header fails, in other words
-- about the writer
FailsAtLabel-other : {Id : Type 0} {view_config : Config} {files : FileDatabase Id}
    {d : Diagnostic Id} {loci : List Locus} {A B : Type 0} {P Q : List Locus → Type 0} {e : Error}
    → ((ps : List Locus) → P ps → Q ps)
    → FailsAtLabel view_config files d loci A P e → FailsAtLabel view_config files d loci B Q e
FailsAtLabel-other wrote left =
    record {
      before =
          left.before;
      here =
          left.here;
      after =
          left.after;
      whole =
          left.whole;
      succeed = left.succeed;
      fails = left.fails;
      wrote = wrote _ left.wrote;
    }

-- what has been written before an error of lookups, in other words about the writer
written_before-other : {Id : Type 0} (files : FileDatabase Id) (view_config : Config)
    (d : Diagnostic Id) (loci : List Locus) (style : DisplayStyle) {A B : Type 0}
    {P Q : List Locus → Type 0} (e : Error)
    → (A → B) → ((ps : List Locus) → P ps → Q ps)
    → WrittenBefore view_config files d loci A P e style
    → WrittenBefore view_config files d loci B Q e style
written_before-other files view_config d loci Rich e unchanged wrote left =
    λ h. ⊎_elim (λ a. inl (unchanged a)) (λ k. inr k) (left h)
written_before-other files view_config d loci Medium e unchanged wrote left =
    FailsAtLabel-other wrote left
written_before-other files view_config d loci Short e unchanged wrote left =
    FailsAtLabel-other wrote left

module _ {Id : Type 0} {config : Config} {files : FileDatabase Id} {d : Diagnostic Id} where
  -- the output that was rendered to a plain writer is what that writer has received
  pub string_rendered : {old new : Sink} {bytes : List ℕ}
      → WritesStyled config.display_style config config files d old (Ok tt) new
      → old ≡ fresh_sink plain_spelling (Some []) → new.contents ≡ Some bytes
      → IsRendered config files d bytes
  string_rendered rendered fresh contents = record {
    stream = rendered.stream;
    is_output = rendered.is_output;
    text_is = written_text _ fresh contents rendered.received;
    succeeds = rendered.on_end.1;
  }

  -- a rich output that was rendered as text means the labels
  pub text_means_labels : {bytes : List ℕ} → IsRendered config files d bytes
      → config.display_style ≡ Rich → TextMeansLabels config files d bytes
  text_means_labels rendered rich = grind (arith, common_steps)

  -- and it is UTF-8
  pub text_is_utf8 : {old new : Sink} {bytes : List ℕ}
      → WritesStyled config.display_style config config files d old (Ok tt) new
      → old ≡ fresh_sink plain_spelling (Some []) → new.contents ≡ Some bytes
      → CharsAreScalars config.chars → ((id : Id) → IsLawful (files.file id)) → IsUtf8 bytes
  text_is_utf8 rendered fresh contents characters lawful =
      subst IsUtf8
      (sym
      (written_text _ fresh contents rendered.received ∙ ap text_of rendered.is_output.stream_is))
      (text-output files d lawful config.display_style config config characters
      rendered.is_output.loci rendered.on_end.1.names_are_utf8).utf8

  -- a call writes through the references that it wrote through
  references_of : {old : Sink} (r : Result (Unit {0}) Error) {new : Sink}
      → WritesStyled config.display_style config config files d old r new
      → new.frame.borrows ≡ old.frame.borrows
  references_of (Ok done) rendered = ap (λ (f : Frame). f.borrows) rendered.on_end.0
  references_of (Err e) rendered = grind (arith, common_steps)

  -- a writer of plain text has received the output's text, or a prefix of it
  written : (old new : Sink) → old.frame.spelling ≡ plain_spelling
      → (r : Result (Unit {0}) Error)
      → WritesStyled config.display_style config config files d old r new
      → WritesText config files d old.contents r new.contents
  unfolding is_known
  written old new plain (Ok done) rendered = record {
    stream = rendered.stream;
    is_output = rendered.is_output;
    received = λ known. text_written old new _ plain (rendered.received known);
    on_end = rendered.on_end.1;
  }
  written old new plain (Err e) rendered = record {
    stream = rendered.stream;
    is_output = rendered.is_output;
    received = λ known. text_prefix old new _ plain (rendered.received known);
    on_end = record {
      error_is = ⊎_elim (λ w. inl (w.0, tt)) (λ w. inr (
        tt,
        w.1,
        written_before-other files config d rendered.is_output.loci
            config.display_style e (λ same. ap (λ (x : Sink). x.contents) same)
            (λ ps wrote known. text_written old new _ plain (wrote known)) w.2,
      ))
          rendered.on_end.error_is;
      early = λ rich p. ap (λ (x : Sink). x.contents) (rendered.on_end.early rich p);
    };
  }

  -- an output that was rendered to a borrowed writer: the writer behind the reference has received
  -- the text, or a prefix of it
  pub written_back : {W : Type 0} (contents_of : W → Option (List ℕ))
      (before after : PlainWriterRef W) {name : GName} {contents : Option (List ℕ)} {x : W}
      {r : Result (Unit {0}) Error}
      → plain_ref_sink contents_of before ≡ fresh_plain_ref_sink name contents
      → WritesStyled config.display_style config config files d
      (plain_ref_sink contents_of before)
      r (plain_ref_sink contents_of after)
      → (name ≡ plain_reference after → x ≡ borrowed_writer after)
      → WritesText config files d contents r (contents_of x)
  written_back {W} contents_of before after {name} {contents} {x} {r} begins renders back =
      let unchanged : (plain_reference after ∷ []) ≡ (name ∷ []) =
      references_of r renders ∙ ap (λ (s : Sink). s.frame.borrows) begins in
      let named : name ≡ plain_reference after = cc in
      subst (λ (o : Option (List ℕ)). WritesText config files d o r (contents_of x))
      (ap (λ (s : Sink). s.contents) begins)
      (subst
      (λ (y : W). WritesText config files d (contents_of (borrowed_writer before)) r
      (contents_of y))
      (sym (back named))
      (written (plain_ref_sink contents_of before) (plain_ref_sink contents_of after) refl r
      renders))
