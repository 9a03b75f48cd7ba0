use Rattle.codespan_core.proofs.Std.{◌≡◌, ◌⊎◌, false, List, Some, inl, inr, ap, refl}
use Rattle.codespan_core.proofs.Std.{rules, sym, ◌∙◌}
use Rattle.report.specs.declared.script.Fault.{Fault}
use Rattle.report.specs.declared.script.words.Word.{Word}
use Rattle.report.specs.declared.script.words.Word.TheVariants.{Severity, Code, Message}
use Rattle.report.specs.ScriptFaults.{line_fault, repetition}
use Rattle.report.specs.ScriptLines.{ScriptLineView, is_ignored, word_of}
use Rattle.report.specs.ScriptWords.{script_word_named}
use Rattle.report.proofs.script.faults.line_fault.Goals as goal

-- a severity that is repeated is the error, before that of its name
repeated-first : (before : List ScriptLineView) (line : ScriptLineView) (fault : Fault)
    → is_ignored line ≡ false → script_word_named (word_of line) ≡ Some Severity
    → Some fault ≡ repetition before line
    → Some fault ≡ line_fault before line
repeated-first before line fault read named repeated = rw (read, named, ← repeated) refl

pub returns-in-Some : goal.returns-in-Some
returns-in-Some c =
    let named = ap script_word_named (sym c.word.ensures.word) ∙ sym c.in-Some-Severity.ensures
    ∙ ap Some c.in-Some-Severity.field-0-is in
    repeated-first _ _ c.in-Some.fault (sym c.if-is_ignored.ensures) named c.in-Some.ensures

-- a code or a message is an error where it is repeated
repeated-once : (before : List ScriptLineView) (line : ScriptLineView) (word : Word)
    → is_ignored line ≡ false → script_word_named (word_of line) ≡ Some word
    → (word ≡ Code) ⊎ (word ≡ Message)
    → repetition before line ≡ line_fault before line
repeated-once before line word read named (inl is) = rw (read, named, is) refl
repeated-once before line word read named (inr is) = rw (read, named, is) refl

pub returns-in-Some-Code : goal.returns-in-Some-Code
returns-in-Some-Code c =
    let named = ap script_word_named (sym c.word.ensures.word) ∙ sym c.in-Some-Code.ensures in
    c.repetition-in-Some-Code.ensures
    ∙ repeated-once _ _ c.in-Some-Code.field-0 (sym c.if-is_ignored.ensures) named
    (search rules)
