-- For `FittedIsLine`: the lines that are drawn of a lawful file can be fitted.
use Rattle.codespan_core.proofs.Std.{ℕ, ◌+◌, ◌-◌, ◌<◌, ◌≤◌, ◌^◌, min, max, List, [], ◌∷◌, length}
use Rattle.codespan_core.proofs.Std.{map, filter, reverse, arith, ◌==◌, ◌&&◌, AllByRecursion}
use Rattle.codespan_core.proofs.Std.{length-drop}
use Rattle.std.proofs.lemmas.List.{length-take}
use Rattle.codespan_core.specs.FileModel.{FileModel, line_text, line_start}
use Rattle.codespan_core.specs.Labels.{LabelModel, drawn_label, from_line_start, sorted, is_single}
use Rattle.codespan_core.specs.Labels.{first_line}
use Rattle.codespan_core.specs.LawfulFiles.{IsLawful}
use Rattle.codespan_output.specs.{first_byte, last_byte, IsFittable, LabeledFileModel, line_at}
use Rattle.codespan_output.specs.{text_without_line_end}
use Rattle.codespan_output.proofs.Order.OrderSorts.{each-insert_sorted}
use Rattle.codespan_output.proofs.Order.SortedFilters.{all-reverse}
use Rattle.codespan_output.proofs.Utf8.DrawnLines.{drawn-utf8, line-utf8}

-- the first byte of a drawn label is not after its last one
abbrev IsForward : ℕ → LabelModel → Type 0
IsForward n x = first_byte n x.start ≤ last_byte n x.end

-- a drawn label is at least one byte long, or ends past every text
drawn-forward : (n most start : ℕ) (x : LabelModel) → n ≤ most
    → min (x.start - start) (n - 1)
    ≤ min (min most (max (x.end - start) (x.start - start + 1))) n - 1
drawn-forward n most start x h = omega arith

from_line_start-forward : (n start : ℕ) (x : LabelModel) → n < 2 ^ 64
    → IsForward n (from_line_start start x)
from_line_start-forward n start x h = drawn-forward n (2 ^ 64 - 1) start x (omega arith)

drawn-all : (f : FileModel) (n : ℕ) (xs : List LabelModel) → n < 2 ^ 64
    → AllByRecursion (IsForward n) (map (drawn_label f) xs)
drawn-all f n [] h = tt
drawn-all f n (x ∷ xs) h =
    (from_line_start-forward n (line_start f (first_line f x)) x h, drawn-all f n xs h)

sorted-all : (n : ℕ) (xs : List LabelModel) → AllByRecursion (IsForward n) xs
    → AllByRecursion (IsForward n) (sorted xs)
sorted-all n [] h = tt
sorted-all n (x ∷ xs) h =
    each-insert_sorted (IsForward n) x (sorted xs) h.0 (sorted-all n xs h.1)

line-short : (f : FileModel) → IsLawful f → (l : ℕ)
    → length (text_without_line_end (line_text f l)) < 2 ^ 64
line-short f law l =
    omega (arith, law.fits, length-take {A = ℕ}, length-drop {A = ℕ})

-- a drawn line of a lawful file can be fitted
pub line_at-fittable : (s : LabeledFileModel) → IsLawful s.file → (l : ℕ)
    → IsFittable (line_at s l)
line_at-fittable s law l =
    let short : length (line_at s l).text < 2 ^ 64 = line-short s.file law l in
    record {
      is_utf8 = drawn-utf8 (line_text s.file l) (line-utf8 s.file law l);
      forward =
          sorted-all (length (line_at s l).text)
          (reverse (map (drawn_label s.file)
          (filter (λ (x : LabelModel). is_single s.file x && (first_line s.file x == l))
          s.labels)))
          (all-reverse (IsForward (length (line_at s l).text))
          (map (drawn_label s.file)
          (filter (λ (x : LabelModel). is_single s.file x && (first_line s.file x == l))
          s.labels))
          (drawn-all s.file (length (line_at s l).text)
          (filter (λ (x : LabelModel). is_single s.file x && (first_line s.file x == l)) s.labels)
          short));
    }
