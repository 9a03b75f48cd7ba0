-- How a text for a terminal is read: for the clause `safe` of
-- `terminal::to_terminal` and that of `terminal::laws::safe_text_is_shown`.
use Rattle.std.proofs.Common.{◌||◌, ◌≡◌, ℕ, Bool, true, false, cond, ◌==◌}
use Rattle.std.proofs.Common.{List, [], ◌∷◌, ◌++◌, refl, sym, ap, subst, ◌∙◌}
use Rattle.std.proofs.Common.{append_assoc}
use Rattle.std.specs.List.{list_all}
use Rattle.std.specs.Char.{is_ascii_digit}
use Rattle.std.specs.Str.{IsUtf8, IsAscii, chars}
use Rattle.std.proofs.lemmas.Bool.{and_parts, ne_eqb}
use Rattle.std.proofs.lemmas.Str.{IsUtf8-append, IsUtf8-nil, IsUtf8-from_ascii, chars-append}
use Rattle.std.proofs.lemmas.Str.{chars-encodes, chars-IsAscii, chars-nil, scalars-chars}
use Rattle.codespan_styled.specs.SafeText.{is_safe, safe_characters, safe_text}
use Rattle.codespan_styled.specs.Terminal.{next_state, state_after, visible, Text, Escape}
use Rattle.codespan_styled.specs.Terminal.{Parameters, Unknown}
use Rattle.codespan_styled.proofs.Shown.{AllSafe, all_safe, scalars_safe}

-- ---- characters

-- read as text, the characters show these, and what follows them is read as text
pub record Reads (cs s : List ℕ) : Type 0 where
  pub after : (rest : List ℕ) → state_after Text (cs ++ rest) ≡ state_after Text rest
  pub shows : (rest : List ℕ) → visible Text (cs ++ rest) ≡ s ++ visible Text rest

Reads-nil : Reads [] []
Reads-nil = record { after = λ rest. refl; shows = λ rest. refl }

Reads-append : (a s b t : List ℕ) → Reads a s → Reads b t → Reads (a ++ b) (s ++ t)
Reads-append a s b t p q = record {
  after =
      λ rest. ap (state_after Text) (append_assoc a b rest) ∙ p.after (b ++ rest)
      ∙ q.after rest;
  shows =
      λ rest. ap (visible Text) (append_assoc a b rest) ∙ p.shows (b ++ rest)
      ∙ ap (λ (l : List ℕ). s ++ l) (q.shows rest)
      ∙ sym (append_assoc s t (visible Text rest));
}

-- a safe character is no escape character
no_escape : (c : ℕ) → is_safe c ≡ true → (c == 0x1b) ≡ false
no_escape c h =
    ne_eqb c 0x1b
    (λ (e : c ≡ 0x1b). let bad : false ≡ true = subst (λ x. is_safe x ≡ true) e h in cc bad)

-- it is read as text
next_safe : (c : ℕ) → is_safe c ≡ true → next_state Text c ≡ Text
next_safe c h =
    ap (λ b. cond b Escape (cond (is_safe c) Text Unknown)) (no_escape c h)
    ∙ ap (λ b. cond b Text Unknown) h

-- it is shown
Reads-safe : (c : ℕ) (cs s : List ℕ) → is_safe c ≡ true → Reads cs s
    → Reads (c ∷ cs) (c ∷ s)
Reads-safe c cs s h p = record {
  after = λ rest. ap (λ r. state_after r (cs ++ rest)) (next_safe c h) ∙ p.after rest;
  shows = λ rest.
      ap (λ b. cond b (visible Escape (cs ++ rest))
      (c ∷ visible (next_state Text c) (cs ++ rest)))
      (no_escape c h)
      ∙ ap (λ r. c ∷ visible r (cs ++ rest)) (next_safe c h)
      ∙ ap (λ (l : List ℕ). c ∷ l) (p.shows rest);
}

-- safe characters are shown
reads_safe : (cs : List ℕ) → AllSafe cs → Reads cs cs
reads_safe [] safe = Reads-nil
reads_safe (c ∷ cs) safe = Reads-safe c cs cs safe.0 (reads_safe cs safe.1)

-- ---- sequences

-- the characters that a sequence has between `[` and `m`
abbrev pub is_parameter : ℕ → Bool
is_parameter c = is_ascii_digit c || (c == 59)

no_end : (c : ℕ) → is_parameter c ≡ true → (c == 109) ≡ false
no_end c h =
    ne_eqb c 109
    (λ (e : c ≡ 109). let bad : false
    ≡ true = subst (λ x. is_parameter x ≡ true) e h in cc bad)

next_parameter : (c : ℕ) → is_parameter c ≡ true → next_state Parameters c ≡ Parameters
next_parameter c h =
    ap (λ b. cond b Text (cond (is_parameter c) Parameters Unknown)) (no_end c h)
    ∙ ap (λ b. cond b Parameters Unknown) h

-- parameters and the end of a sequence show nothing
pub parameters_after : (ps rest : List ℕ) → list_all is_parameter ps ≡ true
    → state_after Parameters (ps ++ 109 ∷ rest) ≡ state_after Text rest
parameters_after [] rest h = refl
parameters_after (p ∷ ps) rest h =
    let parts = and_parts (is_parameter p) (list_all is_parameter ps) h in
    ap (λ r. state_after r (ps ++ 109 ∷ rest)) (next_parameter p parts.0)
    ∙ parameters_after ps rest parts.1

pub parameters_show : (ps rest : List ℕ) → list_all is_parameter ps ≡ true
    → visible Parameters (ps ++ 109 ∷ rest) ≡ visible Text rest
parameters_show [] rest h = refl
parameters_show (p ∷ ps) rest h =
    let parts = and_parts (is_parameter p) (list_all is_parameter ps) h in
    ap (λ r. visible r (ps ++ 109 ∷ rest)) (next_parameter p parts.0)
    ∙ parameters_show ps rest parts.1

-- ---- texts

-- the same of a text, by its characters
pub record ReadsText (bs s : List ℕ) : Type 0 where
  pub utf8 : IsUtf8 bs
  pub reads : Reads (chars bs) s

pub ReadsText-nil : ReadsText [] []
ReadsText-nil =
    record { utf8 = IsUtf8-nil; reads = subst (λ l. Reads l []) (sym chars-nil) Reads-nil }

pub ReadsText-append : (a s b t : List ℕ) → ReadsText a s → ReadsText b t
    → ReadsText (a ++ b) (s ++ t)
ReadsText-append a s b t p q = record {
  utf8 = IsUtf8-append a b p.utf8 q.utf8;
  reads =
      subst (λ l. Reads l (s ++ t)) (sym (chars-append a b p.utf8))
      (Reads-append (chars a) s (chars b) t p.reads q.reads);
}

-- an ASCII text
pub ReadsText-ascii : (bs s : List ℕ) → IsAscii bs → Reads bs s → ReadsText bs s
ReadsText-ascii bs s ascii p = record {
  utf8 = IsUtf8-from_ascii bs ascii;
  reads = subst (λ l. Reads l s) (sym (chars-IsAscii bs ascii)) p;
}

-- the safe text of a text
pub ReadsText-safe : (text : List ℕ) → IsUtf8 text
    → ReadsText (safe_text text) (safe_characters (chars text))
ReadsText-safe text utf8 =
    let scalar_values = scalars_safe (chars text) (scalars-chars text utf8) in
    record {
      utf8 = (safe_characters (chars text), (scalar_values, refl));
      reads =
          subst (λ l. Reads l (safe_characters (chars text)))
          (sym (chars-encodes (safe_characters (chars text)) scalar_values))
          (reads_safe (safe_characters (chars text)) (all_safe (chars text)));
    }
