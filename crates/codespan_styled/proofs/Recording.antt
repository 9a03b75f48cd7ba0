-- What the writer of runs holds after each call: for the law of writers.
use Rattle.std.proofs.Common.{◌≡◌, ℕ, List, [], ◌∷◌, ◌++◌, map, Some, Result, Ok}
use Rattle.std.proofs.Common.{Err, IsErr, refl, sym, ◌∙◌, ap, append_assoc, append-nil}
use Rattle.std.proofs.Common.{string_bytes}
use Rattle.std.proofs.lemmas.Grind.{flat_map-append}
use Rattle.std.proofs.lemmas.List.{map-append}
use Rattle.codespan_base.specs.WriterLaw.{PrefixAppended, extended, AppendsBytes}
use Rattle.codespan_base.specs.declared.term.config.style_mark.StyleMark.{StyleMark}
use Rattle.codespan_styled.specs.declared.recorder.Recorder.{Recorder}
use Rattle.codespan_styled.specs.declared.text.Run.{Run}
use Rattle.codespan_styled.specs.Recorders.{ended_runs, recorded_run, recorded_runs}
use Rattle.codespan_styled.specs.Recorders.{recorded, style_number}
use Rattle.codespan_styled.specs.Runs.{run_view}

-- bytes that the last run takes are recorded last
pub recorded-bytes : (front : List ℕ) (n : ℕ) (old new bytes : List ℕ)
    → new ≡ old ++ bytes
    → front ++ n ∷ new ≡ (front ++ n ∷ old) ++ bytes
recorded-bytes front n old new bytes is =
    ap (λ t. front ++ n ∷ t) is ∙ sym (append_assoc front (n ∷ old) bytes)

-- the runs of a writer whose last run ends are all that it recorded
pub contents-ended : (old new : Recorder) (run : Run)
    → new.runs.items ≡ old.runs.items ++ run ∷ []
    → run.style ≡ old.style → string_bytes run.text ≡ old.text.items
    → recorded_runs (ended_runs new) ≡ recorded old
contents-ended old new run is style text =
    ap (λ runs. recorded_runs (map run_view runs)) is
    ∙ ap recorded_runs (map-append run_view old.runs.items (run ∷ []))
    ∙ flat_map-append recorded_run (ended_runs old) (run_view run ∷ [])
    ∙ ap (λ bytes. recorded_runs (ended_runs old) ++ bytes)
    (append-nil (recorded_run (run_view run)))
    ∙ ap (λ s. recorded_runs (ended_runs old) ++ style_number s ∷ string_bytes run.text) style
    ∙ ap (λ bytes. recorded_runs (ended_runs old) ++ style_number old.style ∷ bytes) text

-- then a run is started
pub recorded-started : (old new : Recorder) (next : StyleMark)
    → recorded_runs (ended_runs new) ≡ recorded old → new.style ≡ next
    → new.text.items ≡ []
    → Some (recorded new) ≡ extended (Some (recorded old)) (style_number next ∷ [])
unfolding extended
recorded-started old new next ended style empty =
    ap Some (ap (λ bytes. bytes ++ style_number new.style ∷ new.text.items) ended
    ∙ ap (λ s. recorded old ++ style_number s ∷ new.text.items) style
    ∙ ap (λ bytes. recorded old ++ style_number next ∷ bytes) empty)

-- a run that cannot end changes nothing
pub nothing_appended : (old new : Recorder) (bytes : List ℕ) → recorded new ≡ recorded old
    → PrefixAppended (Some (recorded old)) bytes (Some (recorded new))
unfolding extended
nothing_appended old new bytes same = record {
  prefix = [];
  rest = bytes;
  whole = refl;
  contents = ap Some (same ∙ sym (append-nil (recorded old)));
}

pub recorded-failed : {E : Type 0} (old new : Recorder) (bytes : List ℕ) (r : Result (Unit {0}) E)
    → IsErr r → recorded new ≡ recorded old
    → AppendsBytes (Some (recorded old)) bytes r (Some (recorded new))
recorded-failed old new bytes (Ok done) is same = absurd (cc is)
recorded-failed old new bytes (Err error) is same = λ known. nothing_appended old new bytes same
