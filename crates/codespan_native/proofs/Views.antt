-- Views of files by their parts, for the clause of `convert::files::file_of`.
use Rattle.std.proofs.Common.{◌≡◌, ◌∙◌, ap, ℕ, Option}
use Rattle.codespan_base.specs.declared.files.Location.{Location}
use Rattle.codespan_native.specs.SourceTexts.{SourceTextView, NativeFileView}

-- a view of these parts
abbrev view : SourceTextView → (ℕ → Option Location) → NativeFileView
view text stated = record { text = text; stated_location = stated }

pub source_is : (s t : NativeFileView) → s.text ≡ t.text
    → s.stated_location ≡ t.stated_location
    → s ≡ t
source_is s t same_text same_stated =
    ap (λ text. view text s.stated_location) same_text ∙ ap (view t.text) same_stated
