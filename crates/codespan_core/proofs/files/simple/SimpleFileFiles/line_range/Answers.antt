use Rattle.codespan_core.proofs.Std.{◌≡◌, ℕ, ◌+◌, ◌<◌, List, Option, length, get_or}
use Rattle.codespan_core.proofs.Std.{sym, ◌∙◌, arith, get_or_default}
use Rattle.codespan_core.specs.{IsLineRange, line_starts_of, simple_file}
use Rattle.codespan_core.specs.Lemmas.Simple.{end_before_last}
use Rattle.codespan_core.proofs.files.simple.SimpleFileFiles.line_range.Goals as goal

-- the range between two starts that follow each other is that of a line
range_between : (name : Option (List ℕ)) (text starts : List ℕ) (i a b : ℕ)
    → starts ≡ line_starts_of text → i + 1 < length starts → a ≡ get_or starts i a
    → b ≡ get_or starts (i + 1) b
    → IsLineRange (simple_file name text) i (record { start = a; end = b })
range_between name text starts i a b same next first last =
    let later = rw same at next in
    record {
      inside = omega (arith, later);
      start_is = rw same at (first ∙ get_or_default starts i a 0 (omega arith));
      end_is =
          (rw same at (last ∙ get_or_default starts (i + 1) b 0 next))
          ∙ sym (end_before_last text i later);
    }

-- a line before the last ends where the next one starts
pub returns-then-line_index-len-clause-value : goal.returns-then-line_index-len-clause-value
returns-then-line_index-len-clause-value g c =
    let file = c.args.self.now in
    range_between (g.Name.Display.output file.name) (g.Source.AsStr.text file.source)
    file.line_starts.items _ _ _ file.starts (omega (arith, file.line_starts.ok.0))
    c.index-start.ensures c.index.ensures
