-- For `AppendsBytes`, `Writes` and `Put`: known bytes of a writer, and more that are appended to
-- them.
use Rattle.codespan_core.proofs.Std.{◌≡◌, ℕ, List, [], ◌++◌, Option, None, Some}
use Rattle.codespan_core.proofs.Std.{is_some, append-nil, append_assoc, refl, sym, ap, ◌∙◌}
use Rattle.std.specs.Io.KnownBytes.{append_known}
use Rattle.codespan_core.specs.{are_known, extended, PrefixAppended}

-- bytes are appended to known bytes, and then more
pub append_known-append : (o : Option (List ℕ)) (a b : List ℕ)
    → append_known (append_known o a) b ≡ append_known o (a ++ b)
append_known-append None a b = refl
append_known-append (Some xs) a b = ap (λ (l : List ℕ). Some l) (append_assoc xs a b)

-- no bytes are appended
pub append_known-nil : (o : Option (List ℕ)) → append_known o [] ≡ o
append_known-nil None = refl
append_known-nil (Some xs) = ap (λ (l : List ℕ). Some l) (append-nil xs)

pub is_some-append : (o : Option (List ℕ)) (bs : List ℕ)
    → is_some (append_known o bs) ≡ is_some o
is_some-append None bs = refl
is_some-append (Some xs) bs = refl

-- bytes were appended, and then more
pub extended-append : (o : Option (List ℕ)) (a b : List ℕ)
    → extended o (a ++ b) ≡ extended (extended o a) b
unfolding extended
extended-append o a b = sym (append_known-append o a b)

-- no bytes were appended
pub extended-nil : (o : Option (List ℕ)) → extended o [] ≡ o
unfolding extended
extended-nil o = append_known-nil o

-- known bytes stay known
pub are_known-extended : (o : Option (List ℕ)) (a : List ℕ)
    → are_known (extended o a) ≡ are_known o
unfolding are_known extended
are_known-extended o a = is_some-append o a

-- a prefix of the first part is one of the whole
pub PrefixAppended-first : (o : Option (List ℕ)) (a : List ℕ) (m : Option (List ℕ))
    (b : List ℕ)
    → PrefixAppended o a m → PrefixAppended o (a ++ b) m
PrefixAppended-first o a m b p =
    record {
      prefix =
          p.prefix;
      rest =
          p.rest ++ b;
      whole =
          sym (append_assoc p.prefix p.rest b) ∙ ap (λ (l : List ℕ). l ++ b) p.whole;
      contents =
          p.contents;
    }

-- a prefix of the last part, after the parts before it
pub PrefixAppended-last : (o : Option (List ℕ)) (a b : List ℕ) (m : Option (List ℕ))
    → PrefixAppended (extended o a) b m → PrefixAppended o (a ++ b) m
PrefixAppended-last o a b m p = record {
  prefix = a ++ p.prefix;
  rest = p.rest;
  whole = append_assoc a p.prefix p.rest ∙ ap (λ (l : List ℕ). a ++ l) p.whole;
  contents = p.contents ∙ sym (extended-append o a p.prefix);
}

-- a prefix of the first part, however many parts follow
pub PrefixAppended_first_2 : (o : Option (List ℕ)) (a : List ℕ) (m : Option (List ℕ))
    (b1 b2 : List ℕ)
    → PrefixAppended o a m → PrefixAppended o (a ++ b1 ++ b2) m
PrefixAppended_first_2 o a m b1 b2 p =
    PrefixAppended-first o (a ++ b1) m b2 (PrefixAppended-first o a m b1 p)

pub PrefixAppended_first_3 : (o : Option (List ℕ)) (a : List ℕ) (m : Option (List ℕ))
    (b1 b2 b3 : List ℕ)
    → PrefixAppended o a m → PrefixAppended o (a ++ b1 ++ b2 ++ b3) m
PrefixAppended_first_3 o a m b1 b2 b3 p =
    PrefixAppended-first o (a ++ b1 ++ b2) m b3 (PrefixAppended_first_2 o a m b1 b2 p)
