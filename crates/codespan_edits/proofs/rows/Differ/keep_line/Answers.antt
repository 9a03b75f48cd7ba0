use Rattle.codespan_core.proofs.Std.{◌≡◌, ◌++◌, ◌∷◌, [], List, string_bytes}
use Rattle.codespan_core.proofs.Std.{IfOk-weaker, sym, ◌∙◌}
use Rattle.codespan_edits.specs.Diffs.{Change, kept}
use Rattle.codespan_edits.specs.Private.Differs.{all_rows}
use Rattle.codespan_edits.specs.RowViews.{rows_view}
use Rattle.codespan_edits.specs.declared.rows.RowSign.TheVariants.{Kept}
use Rattle.codespan_edits.proofs.KeptLines.{kept-line, no-bytes}
use Rattle.codespan_edits.proofs.rows.Differ.keep_line.Goals as goal

-- the line is a row
pub returns-then-is_empty-2-clause-rows : goal.returns-then-is_empty-2-clause-rows
returns-then-is_empty-2-clause-rows c =
    IfOk-weaker c.push_row.result
    (λ _. rows_view c.push_row.new.rows
    ≡ rows_view c.args.self.now.rows ++ (record { sign = Kept; line = c.args.line.now }) ∷ [])
    (λ _. (ps : List Change) → all_rows (record {
      rows = c.push_row.new.rows;
      before = c.args.self.now.before;
      after = c.args.self.now.after;
    }) ps ≡ all_rows c.args.self.now (kept c.args.line.now ∷ ps))
    (λ _ is ps. kept-line (rows_view c.args.self.now.rows) (rows_view c.push_row.new.rows)
    (string_bytes c.args.self.now.before) (string_bytes c.args.self.now.after) c.args.line.now ps
    (no-bytes c.as_str.result.now (string_bytes c.args.self.now.before) c.is_empty.result
    c.as_str.ensures.value c.is_empty.ensures c.if-is_empty.true)
    (no-bytes c.as_str-then-is_empty.result.now (string_bytes c.args.self.now.after)
    c.is_empty-then-is_empty.result c.as_str-then-is_empty.ensures.value
    c.is_empty-then-is_empty.ensures c.if-is_empty-2.true)
    (sym c.is_whole_text.ensures ∙ c.if-is_whole_text.true) c.requires is)
    c.push_row.ensures.rows
