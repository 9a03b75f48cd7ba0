-- The default configuration.
use Rattle.std.specs.Prelude.{None}
use Rattle.codespan_core.specs.declared.term.config.Config.{Config}
use Rattle.codespan_core.specs.declared.term.config.DisplayStyle.TheVariants.{Rich}
use Rattle.codespan_core.specs.declared.term.config.Layout.TheVariants.{Classic}
use Rattle.codespan_core.specs.Characters.{box_drawing}

-- rich style in box drawing, tabs of four cells, lines whole; of a multi-line label, three lines
-- after its first and one before its last
abbrev pub default_config : Config
default_config = record {
  display_style = Rich;
  tab_width = 4;
  chars = box_drawing;
  start_context_lines = 3;
  end_context_lines = 1;
  before_label_lines = 0;
  after_label_lines = 0;
  layout = Classic;
  max_width = None;
}
