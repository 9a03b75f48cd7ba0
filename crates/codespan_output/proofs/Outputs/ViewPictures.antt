-- For the clauses `value` of `codespan_native`, and for the outputs of `report`: the picture
-- of a diagnostic is that of its view, by an equal configuration.
use Rattle.codespan_core.proofs.Std.{◌≡◌, List, [], ◌∷◌, map, refl, ap, ◌∙◌}
use Rattle.codespan_core.specs.ConfigEquality.{IsEqualConfig}
use Rattle.codespan_core.specs.Diagnostics.{diagnostic_view, label_view}
use Rattle.codespan_core.specs.FileModel.{FileDatabase}
use Rattle.codespan_core.specs.Streams.{Stream}
use Rattle.codespan_output.specs.Types.{Diagnostic, Label, Config, DisplayStyle}
use Rattle.codespan_output.specs.{header_text_of, label_of, labels_of, locus_bytes, notes_of}
use Rattle.codespan_output.specs.{rendered, picture, stated_locus, LabelInFile, labeled_file_models}
use Rattle.codespan_output.specs.{label_of_view, picture_of_diagnostic_view}
use Rattle.codespan_output.proofs.Outputs.EqualConfigs.{rendered_equal}

-- the labels of a diagnostic are those of its view
pub labels-of_view : {Id : Type 0} (xs : List (Label Id))
    → map label_of xs ≡ map label_of_view (map label_view xs)
labels-of_view [] = refl
labels-of_view (x ∷ xs) = ap (λ rest. label_of x ∷ rest) (labels-of_view xs)

module _ {Id : Type 0} (expected config : Config) (files : FileDatabase Id) (d : Diagnostic Id)
  where
    -- what is rendered in a style, by a configuration, with these labels
    abbrev rendered_with : DisplayStyle → Config → List (LabelInFile Id) → Stream
    rendered_with style by xs =
        rendered style by by d.severity (header_text_of d)
        (map stated_locus (locus_bytes files.same files.file xs style))
        (labeled_file_models files.same files.file xs) (notes_of d)

    -- the picture by a configuration equal to the one that is expected
    pub picture-of_view : IsEqualConfig expected config
        → picture config.display_style config config files d
        ≡ picture_of_diagnostic_view expected files.same files.file (diagnostic_view d)
    picture-of_view equal =
        ap (λ (style : DisplayStyle). rendered_with style config (labels_of d))
        (ap (λ (c : Config). c.display_style) equal.others)
        ∙ rendered_equal expected config equal d.severity (header_text_of d)
        (map stated_locus (locus_bytes files.same files.file (labels_of d) expected.display_style))
        (labeled_file_models files.same files.file (labels_of d)) (notes_of d)
        expected.display_style
        ∙ ap (λ xs. rendered_with expected.display_style expected xs)
        (labels-of_view d.labels.items)
