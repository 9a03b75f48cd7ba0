-- What the writer of runs holds, read back as runs: for the clause `runs` of `Recorder::into_text`,
-- and for the field `text_is` of `AreRuns`, in the clause of `styled_text`.
use Rattle.std.proofs.Common.{◌≡◌, ℕ, ◌-◌, ◌<◌, true, List, [], ◌∷◌, ◌++◌}
use Rattle.std.proofs.Common.{get_or, refl, sym, ap, ◌∙◌, append_assoc, append-nil, arith}
use Rattle.std.specs.Prelude.{Bool, nat_lt, if◌then◌else◌}
use Rattle.std.proofs.lemmas.Bool.Decides.{nat_tests}
use Rattle.codespan_base.specs.declared.diagnostic.LabelStyle.TheVariants.{Primary, Secondary}
use Rattle.codespan_base.specs.declared.diagnostic.Severity.TheVariants.{Bug, Error, Warning, Note}
use Rattle.codespan_base.specs.declared.diagnostic.Severity.TheVariants.{Help}
use Rattle.codespan_base.specs.declared.term.config.style_mark.StyleMark.{StyleMark}
use Rattle.codespan_base.specs.declared.term.config.style_mark.StyleMark.TheVariants.{Header}
use Rattle.codespan_base.specs.declared.term.config.style_mark.StyleMark.TheVariants.{HeaderMessage}
use Rattle.codespan_base.specs.declared.term.config.style_mark.StyleMark.TheVariants.{LineNumber}
use Rattle.codespan_base.specs.declared.term.config.style_mark.StyleMark.TheVariants.{NoteBullet}
use Rattle.codespan_base.specs.declared.term.config.style_mark.StyleMark.TheVariants.{SourceBorder}
use Rattle.codespan_base.specs.declared.term.config.style_mark.StyleMark.TheVariants.{Label, Reset}
use Rattle.codespan_base.specs.Streams.{Stream, Byte, Mark, Slot, spelled, text_of}
use Rattle.codespan_styled.specs.Recorders.{AreBytes, recorded_runs}
use Rattle.codespan_styled.specs.Recorders.{style_number, style_spelling}
use Rattle.codespan_styled.specs.Runs.{RunView, joined, runs_from, runs_of}
use Rattle.codespan_styled.proofs.Bytes.{TextsAreBytes}

-- a run
abbrev run_of : StyleMark → List ℕ → RunView
run_of style text = record { style = style; text = text }

-- ---- the style mark of a number

-- the style marks in the order of their numbers
abbrev styles : List StyleMark
styles =
    Reset ∷ HeaderMessage ∷ LineNumber ∷ NoteBullet ∷ SourceBorder
    ∷ Header Bug ∷ Header Error ∷ Header Warning ∷ Header Note ∷ Header Help
    ∷ Label Bug Primary ∷ Label Error Primary ∷ Label Warning Primary ∷ Label Note Primary
    ∷ Label Help Primary
    ∷ Label Bug Secondary ∷ Label Error Secondary ∷ Label Warning Secondary ∷ Label Note
    Secondary
    ∷ Label Help Secondary ∷ []

abbrev style_at : ℕ → StyleMark
style_at n = get_or styles (n - 256) Reset

-- ---- reading

-- the runs that numbers hold, of which the first continues a run
abbrev decoded : StyleMark → List ℕ → List ℕ → List RunView
decoded style text [] = run_of style text ∷ []
decoded style text (n ∷ ns) =
    if nat_lt n 256 then decoded style (text ++ n ∷ []) ns
    else run_of style text ∷ decoded (style_at n) [] ns

-- a byte
byte-step : (style : StyleMark) (text : List ℕ) (n : ℕ) (ns : List ℕ) → n < 256
    → decoded style text (n ∷ ns) ≡ decoded style (text ++ n ∷ []) ns
byte-step style text n ns small =
    let is : nat_lt n 256 ≡ true = grind (arith, nat_tests, small) in
    ap (λ (b : Bool). if b then decoded style (text ++ n ∷ []) ns else run_of style text
    ∷ decoded (style_at n) [] ns) is

-- the number of a style mark
style-step : (old : StyleMark) (text : List ℕ) (style : StyleMark) (ns : List ℕ)
    → decoded old text (style_number style ∷ ns) ≡ run_of old text ∷ decoded style [] ns
style-step old text Reset ns = refl
style-step old text HeaderMessage ns = refl
style-step old text LineNumber ns = refl
style-step old text NoteBullet ns = refl
style-step old text SourceBorder ns = refl
style-step old text (Header Bug) ns = refl
style-step old text (Header Error) ns = refl
style-step old text (Header Warning) ns = refl
style-step old text (Header Note) ns = refl
style-step old text (Header Help) ns = refl
style-step old text (Label Bug Primary) ns = refl
style-step old text (Label Error Primary) ns = refl
style-step old text (Label Warning Primary) ns = refl
style-step old text (Label Note Primary) ns = refl
style-step old text (Label Help Primary) ns = refl
style-step old text (Label Bug Secondary) ns = refl
style-step old text (Label Error Secondary) ns = refl
style-step old text (Label Warning Secondary) ns = refl
style-step old text (Label Note Secondary) ns = refl
style-step old text (Label Help Secondary) ns = refl

-- ---- a stream

-- a stream that was written reads back as its runs
spelled-decoded : (style : StyleMark) (text : List ℕ) (s : Stream) → AreBytes (text_of s)
    → decoded style text (spelled style_spelling s) ≡ runs_from style text s
spelled-decoded style text [] small = refl
spelled-decoded style text (Byte b ∷ s) small =
    byte-step style text b (spelled style_spelling s) small.0
    ∙ spelled-decoded style (text ++ b ∷ []) s small.1
spelled-decoded style text (Mark m ∷ s) small =
    style-step style text m (spelled style_spelling s)
    ∙ ap (λ (runs : List RunView). run_of style text ∷ runs) (spelled-decoded m [] s small)
spelled-decoded style text (Slot k ∷ s) small = spelled-decoded style text s small

-- ---- runs

bytes-decoded : (style : StyleMark) (text bs rest : List ℕ) → AreBytes bs
    → decoded style text (bs ++ rest) ≡ decoded style (text ++ bs) rest
bytes-decoded style text [] rest small = ap (λ t. decoded style t rest) (sym (append-nil text))
bytes-decoded style text (b ∷ bs) rest small =
    byte-step style text b (bs ++ rest) small.0
    ∙ bytes-decoded style (text ++ b ∷ []) bs rest small.1
    ∙ ap (λ t. decoded style t rest) (append_assoc text (b ∷ []) bs)

-- runs that are recorded read back
contents-decoded : (style : StyleMark) (text : List ℕ) (runs : List RunView)
    → TextsAreBytes runs
    → decoded style text (recorded_runs runs) ≡ run_of style text ∷ runs
contents-decoded style text [] small = refl
contents-decoded style text (run ∷ runs) small =
    style-step style text run.style (run.text ++ recorded_runs runs)
    ∙ ap (λ (rs : List RunView). run_of style text ∷ rs)
    (bytes-decoded run.style [] run.text (recorded_runs runs) small.0
    ∙ contents-decoded run.style run.text runs small.1)

rest_of : List RunView → List RunView
rest_of [] = []
rest_of (run ∷ runs) = runs

-- runs that are recorded as a stream is, after the number of the reset, are those of the stream
pub runs_of_recorded : (runs : List RunView) (s : Stream) → TextsAreBytes runs
    → AreBytes (text_of s)
    → recorded_runs runs ≡ style_number Reset ∷ spelled style_spelling s
    → runs ≡ runs_of s
unfolding rest_of
runs_of_recorded runs s small bytes contents =
    ap rest_of (sym (contents-decoded Reset [] runs small) ∙ ap (decoded Reset []) contents
    ∙ style-step Reset [] Reset (spelled style_spelling s)
    ∙ ap (λ (rs : List RunView). run_of Reset [] ∷ rs) (spelled-decoded Reset [] s bytes))

-- ---- their texts

joined-from : (style : StyleMark) (text : List ℕ) (s : Stream)
    → joined (runs_from style text s) ≡ text ++ text_of s
joined-from style text [] = refl
joined-from style text (Byte b ∷ s) =
    joined-from style (text ++ b ∷ []) s ∙ append_assoc text (b ∷ []) (text_of s)
joined-from style text (Mark m ∷ s) = ap (λ t. text ++ t) (joined-from m [] s)
joined-from style text (Slot k ∷ s) = joined-from style text s

-- the texts of a stream's runs are its text
pub joined_runs : (s : Stream) → joined (runs_of s) ≡ text_of s
joined_runs s = joined-from Reset [] s
