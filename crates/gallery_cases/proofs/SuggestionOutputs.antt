-- For the clauses of the functions of `suggestions`: the outputs of suggestions, one after another.
use Rattle.std.proofs.Common.{◌≡◌, ◌+◌, ◌<◌, ℕ, true, List, [], ◌∷◌, ◌++◌, take, flat_map}
use Rattle.std.proofs.Common.{length, get_or, sym, ◌∙◌, ap, append_assoc}
use Rattle.std.specs.Prelude.{IsSome}
use Rattle.std.proofs.lemmas.Grind.{flat_map-append}
use Rattle.std.proofs.lemmas.List.{append-nil, take_more}
use Rattle.codespan_base.specs.FileModel.{FileDatabase}
use Rattle.codespan_base.specs.Streams.{Stream, text_of}
use Rattle.codespan_base.specs.WriterLaw.{Sink, are_known, is_known, with_written}
use Rattle.codespan_edits.specs.declared.edit.Edit.{Edit}
use Rattle.codespan_output.specs.Utf8Laws.{StreamIsUtf8}
use Rattle.codespan_output.proofs.Lanes.LineLemmas.{each_all}
use Rattle.codespan_styled.specs.Recorders.{AreBytes, new_recorder_sink}
use Rattle.codespan_styled.specs.Runs.{RunView, runs_of}
use Rattle.codespan_styled.proofs.Bytes.{utf8-bytes}
use Rattle.codespan_suggestions.specs.DrawnFiles.{NamesAreStated}
use Rattle.codespan_suggestions.specs.EditedFiles.{edited_files}
use Rattle.gallery_cases.specs.CaseOutputs.{AreNamed}

-- where all names are stated, those of edited files are
pub stated_names : {Id : Type 0} (database : FileDatabase Id) (edits : List (Edit Id))
    → AreNamed database → NamesAreStated database edits
stated_names database edits named =
    each_all (λ id. IsSome (database.file id).name) (edited_files database.same edits) named

-- the runs of a new writer to which a stream was written are those of the stream
pub written_runs : {old new : Sink} (s : Stream) (runs : List RunView)
    → old ≡ new_recorder_sink → (is_known old ≡ true → new ≡ with_written old s)
    → StreamIsUtf8 s
    → ((t : Stream) → new ≡ with_written new_recorder_sink t → AreBytes (text_of t)
    → runs ≡ runs_of t)
    → runs ≡ runs_of s
unfolding is_known are_known
written_runs s runs fresh written utf8 are =
    are s (written (ap is_known fresh) ∙ ap (λ (x : Sink). with_written x s) fresh)
    (utf8-bytes (text_of s) utf8.utf8)

-- what one more element gives is appended
pub one_more : {X Y : Type 0} (f : X → List Y) (xs : List X) (i : ℕ) (x : X)
    (start old new piece : List Y)
    → i < length xs → x ≡ get_or xs i x → old ≡ start ++ flat_map f (take i xs)
    → piece ≡ f x → new ≡ old ++ piece → new ≡ start ++ flat_map f (take (i + 1) xs)
one_more f xs i x start old new piece inside at before gives is =
    is ∙ ap (λ ys. ys ++ piece) before ∙ append_assoc start (flat_map f (take i xs)) piece
    ∙ ap (λ ys. start ++ (flat_map f (take i xs) ++ ys))
    (gives ∙ sym (append-nil (f x)))
    ∙ ap (λ ys. start ++ ys)
    (sym (flat_map-append f (take i xs) (x ∷ [])))
    ∙ ap (λ ys. start ++ flat_map f ys)
    (ap (λ y. take i xs ++ y ∷ []) at ∙ sym (take_more xs i x inside))
