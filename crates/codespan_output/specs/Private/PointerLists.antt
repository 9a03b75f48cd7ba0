-- The pointers of a line, as data.
use Rattle.std.specs.Prelude.{ℕ, ◌+◌, ◌-◌, nat_lt, min, List, [], ◌∷◌, ◌++◌}
use Rattle.std.specs.Prelude.{Option, Some, None, if◌then◌else◌, nat_le, ◌&&◌}
use Rattle.std.specs.Option.{option_map}
use Rattle.std.specs.List.{list_any, filter_map}
use Rattle.codespan_core.specs.Streams.{Stream, spaces}
use Rattle.codespan_output.specs.declared.char_metrics.Metrics.{Metrics}
use Rattle.codespan_output.specs.declared.rows.pointer_cursor.Pointer.{Pointer}
use Rattle.codespan_output.specs.Lanes.{label_glyph}
use Rattle.codespan_output.specs.Rows.{RowContext}
use Rattle.codespan_output.specs.RowParts.{starts_in, max_label_start}
use Rattle.codespan_core.specs.Labels.{LabelModel, is_primary}
use Rattle.codespan_output.specs.Types.{LabelStyle, Primary, Secondary}

-- ---- the pointers under characters, also under those after the greatest start, which show nothing

-- `n` spaces under a character that begins at this byte index or before it, none under a later one
unfoldable pub spaces_up_to : ℕ → Metrics → ℕ → Stream
spaces_up_to byte_index c n = if nat_le c.byte_index byte_index then spaces n else []

-- the style of a pointer: primary where a primary label starts in the character
abbrev pub pointer_style : List LabelModel → Metrics → LabelStyle
pointer_style labels c =
    if list_any (λ x. is_primary x && starts_in c x) labels then Primary else Secondary

-- the pointer under a character with the spaces after it, or spaces where no hanging label starts
unfoldable pub pointer_at : RowContext → List LabelModel → List LabelModel → Metrics
    → Stream
pointer_at context labels hanging_labels c =
    if list_any (starts_in c) hanging_labels then
    label_glyph context.severity (pointer_style hanging_labels c) context.chars.pointer_left
    ++ spaces_up_to (max_label_start labels) c (c.unicode_width - 1)
    else spaces_up_to (max_label_start labels) c c.unicode_width

-- ---- pointers with the spaces between them

-- the style of the pointer under a character, where a label hangs from it
abbrev pub pointer_style_if_any : List LabelModel → Metrics → Option LabelStyle
pointer_style_if_any hanging_labels c =
    if list_any (starts_in c) hanging_labels then Some (pointer_style hanging_labels c) else None

-- the pointer under a character, of this style
abbrev pub pointer_under : Metrics → LabelStyle → Pointer
pointer_under c style = record {
  byte_index = c.byte_index;
  column = c.column;
  end_column = c.column + min c.unicode_width 1;
  style = style;
}

-- the pointers under characters, where labels hang from them
abbrev pub pointers_in : List LabelModel → List Metrics → List Pointer
pointers_in hanging_labels cs =
    filter_map (λ c. option_map (pointer_under c) (pointer_style_if_any hanging_labels c)) cs

-- the first pointers, up to one whose character does not begin before a byte index
abbrev pub pointers_before : ℕ → List Pointer → List Pointer
pointers_before byte_index [] = []
pointers_before byte_index (p ∷ ps) =
    if nat_lt p.byte_index byte_index then p ∷ pointers_before byte_index ps else []

-- pointers from a column on, with spaces between them and up to the column `edge`
abbrev pub spaced : RowContext → ℕ → ℕ → List Pointer → Stream
spaced context edge column [] = spaces (edge - column)
spaced context edge column (p ∷ ps) =
    spaces (p.column - column) ++ label_glyph context.severity p.style context.chars.pointer_left
    ++ spaced context edge p.end_column ps
