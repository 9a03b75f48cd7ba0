-- For `display_text` and `with_note`: texts that a value was written to. For `clone_labels` and
-- `clone_notes`: the views of a list with one more item.
use Rattle.codespan_core.proofs.Std.{◌≡◌, ℕ, ◌+◌, ◌<◌, List, [], ◌∷◌}
use Rattle.codespan_core.proofs.Std.{◌++◌, length, get_or, take, map, Option, Some, None}
use Rattle.codespan_core.proofs.Std.{IfSome, string_bytes, refl, sym, ap, ◌∙◌, map-append}
use Rattle.codespan_core.proofs.Std.{take_more}
use Rattle.std.specs.Prelude.{String}
use Rattle.std.specs.Global.{Global}
use Rattle.std.specs.Fmt.{WritesText}
use Rattle.std.proofs.lemmas.Fmt.{contents_after_writes}
use Rattle.codespan_core.specs.declared.diagnostic.text.DisplayBuffer.{DisplayBuffer}

-- a text that was empty before a value was written to it is what the value's `Display` states
pub wrote_text : (o : Option (List ℕ)) (s t : DisplayBuffer) → string_bytes s.text ≡ []
    → WritesText (λ s bytes t. string_bytes t.text ≡ string_bytes s.text ++ bytes) s o t
    → IfSome o (λ bytes. string_bytes t.text ≡ bytes)
wrote_text None s t empty wrote = tt
wrote_text (Some bytes) s t empty wrote =
    contents_after_writes _ (λ g. string_bytes g.text) (λ w l v t. t) s bytes t wrote
    ∙ ap (λ l. l ++ bytes) empty

-- the note that was added is the text that was displayed
pub noted : (o : Option (List ℕ)) (text : String Global) (old new : List (String Global))
    → IfSome o (λ bytes. string_bytes text ≡ bytes) → new ≡ old ++ text ∷ []
    → IfSome o (λ bytes. map string_bytes new ≡ map string_bytes old ++ bytes ∷ [])
noted None text old new wrote added = tt
noted (Some bytes) text old new wrote added =
    rw added
    (map-append string_bytes old (text ∷ [])
    ∙ ap (λ (b : List ℕ). map string_bytes old ++ b ∷ []) wrote)

-- one more copy, of a list whose copies so far have the views of its first items
pub viewed_more : {X Y : Type 0} (view : X → Y) (items slice copies new : List X) (i : ℕ)
    (item copy : X)
    → slice ≡ items → i < length slice → item ≡ get_or slice i item
    → map view copies ≡ map view (take i items) → new ≡ copies ++ copy ∷ []
    → view copy ≡ view item
    → map view new ≡ map view (take (i + 1) items)
viewed_more view items slice copies new i item copy same inside read before added equal =
    let next : take (i + 1) items ≡ take i items ++ item ∷ [] =
    rw same at (take_more slice i item inside ∙ ap (λ y. take i slice ++ y ∷ []) (sym read)) in
    rw (added, next) (simp map-append (rw (before, equal) refl))
