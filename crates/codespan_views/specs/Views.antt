-- The views, as their contracts see them: a diagnostic, and a configuration or a style.
use Rattle.std.specs.Prelude.{Bool, if◌then◌else◌}
use Rattle.codespan_output.specs.Types.{Diagnostic, Config, DisplayStyle, Medium, Short}
use Rattle.codespan_views.specs.declared.rich.RichDiagnostic.{RichDiagnostic}
use Rattle.codespan_views.specs.declared.short.ShortDiagnostic.{ShortDiagnostic}

-- the diagnostic that it renders
abbrev pub diagnostic_of : {Id : Type 0} → RichDiagnostic Id → Diagnostic Id
diagnostic_of v = v.diagnostic.now

-- the configuration that decides its lines and its padding
abbrev pub view_config_of : {Id : Type 0} → RichDiagnostic Id → Config
view_config_of v = v.config.now

-- the diagnostic that a short view renders
abbrev pub short_diagnostic_of : {Id : Type 0} → ShortDiagnostic Id → Diagnostic Id
short_diagnostic_of v = v.diagnostic.now

-- medium style has the notes, short style does not
abbrev pub style_with_notes : Bool → DisplayStyle
style_with_notes show_notes = if show_notes then Medium else Short

-- the style that it renders
abbrev pub short_style_of : {Id : Type 0} → ShortDiagnostic Id → DisplayStyle
short_style_of v = style_with_notes v.show_notes
