-- For the clause of `SequenceWriter::fail_at_style_mark`: a style mark of which only the first
-- bytes of its spelling are written.
use Rattle.std.proofs.Common.{◌≡◌, ℕ, List, ◌++◌, Option, take, drop, sym, ap}
use Rattle.std.proofs.Common.{◌∙◌, append_assoc}
use Rattle.std.proofs.lemmas.List.{take-append-drop}
use Rattle.codespan_base.specs.WriterLaw.{extended, PrefixAppended}

-- the first bytes are written
pub first_written : (o : Option (List ℕ)) (n : ℕ) (bs first : List ℕ) (m : Option (List ℕ))
    → first ≡ take n bs → m ≡ extended o first → PrefixAppended o bs m
first_written o n bs first m e h = record {
  prefix = first;
  rest = drop n bs;
  whole = ap (λ (l : List ℕ). l ++ drop n bs) e ∙ take-append-drop n bs;
  contents = h;
}

-- the first bytes are a prefix
pub first_prefix : (o : Option (List ℕ)) (n : ℕ) (bs first : List ℕ) (m : Option (List ℕ))
    → first ≡ take n bs → PrefixAppended o first m → PrefixAppended o bs m
first_prefix o n bs first m e p = record {
  prefix = p.prefix;
  rest = p.rest ++ drop n bs;
  whole =
      sym (append_assoc p.prefix p.rest (drop n bs))
      ∙ ap (λ (l : List ℕ). l ++ drop n bs) (p.whole ∙ e) ∙ take-append-drop n bs;
  contents = p.contents;
}
