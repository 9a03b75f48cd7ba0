-- The two parts of a `Checked`: the schema and the document.
use Rattle.std.specs.Prelude.{◌≡◌, ℕ, List, Option, Some, Bool, true, refl, codes}
use Rattle.examples.specs.declared.files.checked.Part.{Part}
use Rattle.examples.specs.declared.files.checked.Part.TheVariants.{Schema, Document}

-- the name of a part, as users see it
abbrev pub part_name : Part → Option (List ℕ)
part_name Schema = Some (codes "schema")
part_name Document = Some (codes "document")

-- of two values, one for the schema and one for the document, that of a part
abbrev pub of_part : {A : Type 0} → A → A → Part → A
of_part schema document Schema = schema
of_part schema document Document = document

-- where an equality that separates the two parts holds of parts, they are one
pub one_part : (eq : Part → Part → Bool) → (eq Schema Document ≡ true → ⊥)
    → (eq Document Schema ≡ true → ⊥) → (i j : Part) → eq i j ≡ true → i ≡ j
one_part eq left right Schema Schema e = refl
one_part eq left right Schema Document e = absurd (left e)
one_part eq left right Document Schema e = absurd (right e)
one_part eq left right Document Document e = refl
