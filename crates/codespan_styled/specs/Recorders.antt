-- What a `Recorder` has received. The law of writers, which knows only bytes, sees it as a writer
-- that holds, for each run, a number above 255 that stands for its style mark, and then the run's
-- bytes.
use Rattle.std.specs.Prelude.{◌≡◌, ℕ, ◌+◌, ◌<◌, Bool, List, [], ◌∷◌, ◌++◌, map, Some}
use Rattle.std.specs.List.{AllByRecursion, flat_map}
use Rattle.codespan_base.specs.declared.diagnostic.LabelStyle.TheVariants.{Primary, Secondary}
use Rattle.codespan_base.specs.declared.diagnostic.Severity.{Severity}
use Rattle.codespan_base.specs.declared.diagnostic.Severity.TheVariants.{Bug, Error, Warning, Note}
use Rattle.codespan_base.specs.declared.diagnostic.Severity.TheVariants.{Help}
use Rattle.codespan_base.specs.declared.term.config.style_mark.StyleMark.{StyleMark}
use Rattle.codespan_base.specs.declared.term.config.style_mark.StyleMark.TheVariants.{Header}
use Rattle.codespan_base.specs.declared.term.config.style_mark.StyleMark.TheVariants.{HeaderMessage}
use Rattle.codespan_base.specs.declared.term.config.style_mark.StyleMark.TheVariants.{LineNumber}
use Rattle.codespan_base.specs.declared.term.config.style_mark.StyleMark.TheVariants.{NoteBullet}
use Rattle.codespan_base.specs.declared.term.config.style_mark.StyleMark.TheVariants.{SourceBorder}
use Rattle.codespan_base.specs.declared.term.config.style_mark.StyleMark.TheVariants.{Label, Reset}
use Rattle.codespan_base.specs.Streams.{Spelling, Stream, text_of}
use Rattle.codespan_base.specs.WriterLaw.{Sink, with_written}
use Rattle.codespan_base.specs.Writers.{fresh_sink}
use Rattle.codespan_styled.specs.declared.recorder.Recorder.{Recorder}
use Rattle.codespan_styled.specs.Runs.{RunView, run_view, runs_of}

-- ---- bytes

-- each number is a byte
abbrev pub AreBytes : List ℕ → Type 0
AreBytes bs = AllByRecursion (λ b. b < 256) bs

-- ---- numbers of style marks

-- the number of a severity among the style marks that have one
abbrev pub severity_offset : Severity → ℕ
severity_offset Bug = 0
severity_offset Error = 1
severity_offset Warning = 2
severity_offset Note = 3
severity_offset Help = 4

-- the number of a style mark, above 255
abbrev pub style_number : StyleMark → ℕ
style_number Reset = 256
style_number HeaderMessage = 257
style_number LineNumber = 258
style_number NoteBullet = 259
style_number SourceBorder = 260
style_number (Header severity) = 261 + severity_offset severity
style_number (Label severity Primary) = 266 + severity_offset severity
style_number (Label severity Secondary) = 271 + severity_offset severity

-- each style mark is recorded as its number
abbrev pub style_spelling : Spelling
style_spelling style_mark = style_number style_mark ∷ []

-- ---- runs

-- how a run is recorded: the number of its style mark, and then its bytes
abbrev pub recorded_run : RunView → List ℕ
recorded_run run = style_number run.style ∷ run.text

-- runs, one after another
abbrev pub recorded_runs : List RunView → List ℕ
recorded_runs runs = flat_map recorded_run runs

-- the runs of a writer before the last one
abbrev pub ended_runs : Recorder → List RunView
ended_runs r = map run_view r.runs.items

-- what a writer holds: its runs, and then the last one
abbrev pub recorded : Recorder → List ℕ
recorded r =
    recorded_runs (ended_runs r)
    ++ recorded_run (record { style = r.style; text = r.text.items })

-- a call of the writer has failed
abbrev pub has_failed : Recorder → Bool
has_failed r = r.failed

-- the writer, as the law of writers sees it
abbrev pub recorder_sink : Recorder → Sink
recorder_sink r = record {
  frame = record { spelling = style_spelling; failed = r.failed; borrows = [] };
  contents = Some (recorded r);
}

-- a writer that has received nothing
abbrev pub new_recorder_sink : Sink
new_recorder_sink = fresh_sink style_spelling (Some (style_number Reset ∷ []))

-- the writer has received this stream: it is what a new one is after it was written
abbrev pub HasReceived : Recorder → Stream → Type 0
HasReceived r s = recorder_sink r ≡ with_written new_recorder_sink s

-- the runs are those of what the writer has received
abbrev pub AreRunsReceived : Recorder → List RunView → Type 0
AreRunsReceived r runs =
    (s : Stream) → HasReceived r s → AreBytes (text_of s) → runs ≡ runs_of s
