-- Edits one after another make the same, for the clause of `laws::edits_are_one_by_one`.
use Rattle.codespan_core.proofs.Std.{◌≡◌, ℕ, ◌-◌, ◌≤◌, List, [], ◌∷◌}
use Rattle.codespan_core.proofs.Std.{◌++◌, length, take, drop, sym, ap, ◌∙◌, arith}
use Rattle.codespan_core.proofs.Std.{append_assoc, slice_range, take-append-drop}
use Rattle.std.proofs.Common.{length-take}
use Rattle.std.proofs.lemmas.List.{take-append-le}
use Rattle.std.proofs.Math.Seq.{drop-append_seam, take-add}
use Rattle.codespan_edits.specs.Edits.{ListedEdit, in_order, listed, edited_from}
use Rattle.codespan_edits.specs.EditLaws.{edited_backwards, EditsAreOneByOne}
use Rattle.codespan_edits.specs.Private.Places.{FitFrom}
use Rattle.codespan_edits.proofs.FitLemmas.{fit-in_order}

-- a shorter front of a front
take-front : (a b : ℕ) (text rest : List ℕ) → a ≤ b → b ≤ length text
    → take a (take b text ++ rest) ≡ take a text
take-front a b text rest h k =
    let within : a ≤ length (take b text) = rw length-take (omega arith) in
    take-append-le a (take b text) rest within
    ∙ (sym (take-append-le a (take b text) (drop b text) within)
    ∙ ap (take a) (take-append-drop b text))

-- what follows a front
drop-front : (b : ℕ) (text rest : List ℕ) → b ≤ length text → drop b (take b text ++ rest)
    ≡ rest
drop-front b text rest k =
    let is : length (take b text) ≡ b = length-take b text ∙ omega arith in
    ap (λ n. drop n (take b text ++ rest)) (sym is) ∙ drop-append_seam (take b text) rest

-- a front, and what follows it up to b
front-part : (a b : ℕ) (text : List ℕ) → a ≤ b → b ≤ length text
    → take a text ++ slice_range text a b ≡ take b text
front-part a b text h k = sym (take-add a (b - a) text) ∙ ap (λ n. take n text) (omega arith)

-- the text up to a byte stays, and from there on it is as edited all at once
backwards : (text : List ℕ) (byte : ℕ) (xs : List ListedEdit) → FitFrom text byte xs
    → edited_backwards text xs ≡ take byte text ++ edited_from text byte xs
backwards text byte [] fit = sym (take-append-drop byte text)
backwards text byte (x ∷ xs) fit =
    let e = x.edit in
    let rest = edited_from text e.end xs in
    let start : take e.start (edited_backwards text xs) ≡ take e.start text =
    ap (take e.start) (backwards text e.end xs fit.4)
    ∙ take-front e.start e.end text rest fit.1 fit.3.0 in
    let end : drop e.end (edited_backwards text xs) ≡ rest =
    ap (drop e.end) (backwards text e.end xs fit.4) ∙ drop-front e.end text rest fit.3.0 in
    rw (start, end)
    (ap (λ front. front ++ (e.replacement ++ rest))
    (sym (front-part byte e.start text fit.0 fit.2.0))
    ∙ append_assoc (take byte text) (slice_range text byte e.start) (e.replacement ++ rest))

pub one-by-one : EditsAreOneByOne
one-by-one text edits none =
    backwards text 0 (in_order (listed edits)) (fit-in_order text edits none)
