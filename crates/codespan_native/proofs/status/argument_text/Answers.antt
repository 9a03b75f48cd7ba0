use Rattle.std.proofs.Common.{◌≡◌, ◌<◌, ◌≤◌, ℕ, zero, suc, Bool, true, List, []}
use Rattle.std.proofs.Common.{◌∷◌, ◌+◌, ◌∙◌, length, get_or, leb, refl, ap, arith, Bor}
use Rattle.std.specs.Prelude.{◌&&◌}
use Rattle.std.proofs.lemmas.Bool.{and_parts, leb-true}
use Rattle.codespan_native.specs.Constants.{STATUS_TEXT_MAX}
use Rattle.codespan_native.specs.StatusTexts.{argument_text}
use Rattle.codespan_native.proofs.status.argument_text.Goals as goal

-- whether all texts are short
abbrev are_short : List (Bor (List ℕ)) → Bool
are_short [] = true
are_short (text ∷ texts) = leb (length text.now) STATUS_TEXT_MAX && are_short texts

-- then each is
short_at : (texts : List (Bor (List ℕ))) (i : ℕ) (text : Bor (List ℕ)) → i < length texts
    → text ≡ get_or texts i text → are_short texts ≡ true
    → length text.now ≤ STATUS_TEXT_MAX
short_at [] i text below is all = absurd (omega (arith, below))
short_at (t ∷ ts) zero text below is all =
    rw is
    (leb-true (length t.now) STATUS_TEXT_MAX
    (and_parts (leb (length t.now) STATUS_TEXT_MAX) (are_short ts) all).0)
short_at (t ∷ ts) (suc i) text below is all =
    short_at ts i text (omega (arith, below)) is
    (and_parts (leb (length t.now) STATUS_TEXT_MAX) (are_short ts) all).1

-- the texts of the table are short
pub returns-in-Some-clause-short : goal.returns-in-Some-clause-short
returns-in-Some-clause-short c =
    short_at (_ ∷ _ ∷ _ ∷ _ ∷ _ ∷ _ ∷ _ ∷ _ ∷ _ ∷ _ ∷ _ ∷ _ ∷ _ ∷ _ ∷ _
    ∷ _ ∷ _ ∷ _ ∷ _ ∷ _ ∷ _ ∷ _ ∷ _ ∷ _ ∷ _ ∷ _ ∷ _ ∷ _ ∷ _ ∷ _ ∷ _ ∷ _
    ∷ _ ∷ _ ∷ _ ∷ [])
    c.args.argument c.in-Some.text.now c.in-Some.ensures.lookup.3.0 c.in-Some.ensures.lookup.1
    refl

-- whether the texts are those of the arguments from this number on
abbrev AreTexts : ℕ → List (Bor (List ℕ)) → Type 0
AreTexts number [] = Unit {0}
AreTexts number (text ∷ texts) =
    (text.now ≡ argument_text number) × AreTexts (number + 1) texts

-- then the one at an index is that of its argument
text_at : (texts : List (Bor (List ℕ))) (first i number : ℕ) (text : Bor (List ℕ))
    → i < length texts → text ≡ get_or texts i text → AreTexts first texts
    → number ≡ first + i → text.now ≡ argument_text number
text_at [] first i number text below is all at = absurd (omega (arith, below))
text_at (t ∷ ts) first zero number text below is all at =
    let same : first ≡ number = omega (arith, at) in
    ap (λ (b : Bor (List ℕ)). b.now) is ∙ all.0 ∙ ap argument_text same
text_at (t ∷ ts) first (suc i) number text below is all at =
    text_at ts (first + 1) i number text (omega (arith, below)) is all.1 (omega (arith, at))

-- the texts of the table are those of the arguments
pub returns-in-Some-clause-value : goal.returns-in-Some-clause-value
returns-in-Some-clause-value c =
    text_at (_ ∷ _ ∷ _ ∷ _ ∷ _ ∷ _ ∷ _ ∷ _ ∷ _ ∷ _ ∷ _ ∷ _ ∷ _ ∷ _ ∷ _
    ∷ _ ∷ _ ∷ _ ∷ _ ∷ _ ∷ _ ∷ _ ∷ _ ∷ _ ∷ _ ∷ _ ∷ _ ∷ _ ∷ _ ∷ _ ∷ _ ∷ _
    ∷ _ ∷ _ ∷ _ ∷ [])
    0 c.args.argument c.args.argument c.in-Some.text.now c.in-Some.ensures.lookup.3.0
    c.in-Some.ensures.lookup.1 (
      refl,
      (
        refl,
        (
          refl,
          (
            refl,
            (
              refl,
              (
                refl,
                (
                  refl,
                  (
                    refl,
                    (
                      refl,
                      (
                        refl,
                        (
                          refl,
                          (
                            refl,
                            (
                              refl,
                              (
                                refl,
                                (
                                  refl,
                                  (
                                    refl,
                                    (
                                      refl,
                                      (
                                        refl,
                                        (
                                          refl,
                                          (
                                            refl,
                                            (
                                              refl,
                                              (
                                                refl,
                                                (
                                                  refl,
                                                  (
                                                    refl,
                                                    (
                                                      refl,
                                                      (
                                                        refl,
                                                        (
                                                          refl,
                                                          (
                                                            refl,
                                                            (
                                                              refl,
                                                              (
                                                                refl,
                                                                (
                                                                  refl,
                                                                  (
                                                                    refl,
                                                                    (
                                                                      refl,
                                                                      (
                                                                        refl,
                                                                        (
                                                                          refl,
                                                                          tt,
                                                                        ),
                                                                      ),
                                                                    ),
                                                                  ),
                                                                ),
                                                              ),
                                                            ),
                                                          ),
                                                        ),
                                                      ),
                                                    ),
                                                  ),
                                                ),
                                              ),
                                            ),
                                          ),
                                        ),
                                      ),
                                    ),
                                  ),
                                ),
                              ),
                            ),
                          ),
                        ),
                      ),
                    ),
                  ),
                ),
              ),
            ),
          ),
        ),
      ),
    )
    (omega arith)
