-- For the clauses of `rendering::render_over` and `rendering::config_with`: the output of a
-- diagnostic.
use Rattle.codespan_core.proofs.Std.{◌≡◌, ℕ, true, List, Option, Result, Ok, Err}
use Rattle.codespan_core.proofs.Std.{IfOk, refl, subst, sym, ap, ◌∙◌}
use Rattle.codespan_core.specs.Defaults.{default_config}
use Rattle.codespan_core.specs.Diagnostics.{diagnostic_view}
use Rattle.codespan_core.specs.FileModel.{FileDatabase}
use Rattle.codespan_core.specs.ConfigEquality.{IsEqualConfig}
use Rattle.codespan_core.specs.Streams.{text_of}
use Rattle.codespan_output.specs.Types.{Diagnostic, Error, Config, DisplayStyle}
use Rattle.codespan_output.specs.Lookups.{Failures}
use Rattle.codespan_output.specs.Picture.{picture_of_diagnostic_view}
use Rattle.codespan_views.specs.Output.{IsRendered}
use Rattle.codespan_output.proofs.Outputs.StatedNames.{output_stated}
use Rattle.codespan_output.proofs.Outputs.ViewPictures.{picture-of_view}
use Rattle.report.specs.RenderedTexts.{report_config, only_file, output_text}

-- a configuration equal to the default one, in a style and a width
pub restyled : (config : Config) (style : DisplayStyle) (width : Option ℕ)
    → IsEqualConfig default_config config
    → IsEqualConfig (report_config style width)
    (record config { display_style = style; max_width = width })
restyled config style width equal =
    record {
      chars =
          equal.chars;
      others =
          ap (λ (c : Config). record c { display_style = style; max_width = width }) equal.others;
    }

module _ (d : Diagnostic (Unit {0})) where
  -- a file database of that file alone
  abbrev table_at : List ℕ → List ℕ → Failures (Unit {0}) → FileDatabase (Unit {0})
  table_at name source failure =
      record { same = λ i j. true; file = only_file name source; failure = failure }

  -- the text rendered of the diagnostic over a name and a source, by a configuration equal to the
  -- default one in its style, is that of its output
  rendered_text : (name source : List ℕ) (config : Config) (failure : Failures (Unit {0}))
      (text : List ℕ)
      → IsEqualConfig (report_config config.display_style config.max_width) config
      → IsRendered config (table_at name source failure) d text
      → (named contents : List ℕ) → name ≡ named → source ≡ contents
      → text
      ≡ output_text config.display_style config.max_width named contents (diagnostic_view d)
  unfolding output_text
  rendered_text name source config failure text equal is_rendered named contents n s =
      let plain = report_config config.display_style config.max_width in
      is_rendered.text_is
      ∙ ap text_of
      (is_rendered.is_output.stream_is
      ∙ output_stated (table_at name source failure) d (λ x has. refl) config.display_style
      config
      config is_rendered.is_output.loci is_rendered.is_output.are_loci)
      ∙ ap text_of (picture-of_view plain config (table_at name source failure) d equal)
      ∙ ap
      (λ m. text_of
      (picture_of_diagnostic_view plain (λ i j. true) (only_file m source) (diagnostic_view d))) n
      ∙ ap
      (λ m. text_of (picture_of_diagnostic_view plain (λ i j. true) (only_file named m)
      (diagnostic_view d))) s

  -- the same of a call that returns a text, by a configuration equal to the default one in a style
  pub rendered_result : {T : Type 0} (style : DisplayStyle) (width : Option ℕ)
      (text : T → List ℕ)
      (name source : List ℕ) (config : Config) (failure : Failures (Unit {0}))
      (r : Result T Error)
      → IsEqualConfig (report_config style width) config
      → IfOk r (λ t. IsRendered config (table_at name source failure) d (text t))
      → (named contents : List ℕ) → name ≡ named → source ≡ contents
      → IfOk r (λ t. text t ≡ output_text style width named contents (diagnostic_view d))
  rendered_result style width text name source config failure (Ok
      t) equal is_rendered named contents n s =
      let styled : config.display_style ≡ style =
      ap (λ (c : Config). c.display_style) equal.others in
      let wide : config.max_width ≡ width = ap (λ (c : Config). c.max_width) equal.others in
      let same = subst
      (λ other. IsEqualConfig (report_config other config.max_width) config) (sym styled)
      (subst (λ other. IsEqualConfig (report_config style other) config) (sym wide) equal) in
      subst (λ other. text t ≡ output_text other width named contents (diagnostic_view d)) styled
      (subst
      (λ other. text t
      ≡ output_text config.display_style other named contents (diagnostic_view d)) wide
      (rendered_text name source config failure (text t) same is_rendered named contents n s))
  rendered_result style width text name source config failure (Err
      e) equal is_rendered named contents n s =
      tt
