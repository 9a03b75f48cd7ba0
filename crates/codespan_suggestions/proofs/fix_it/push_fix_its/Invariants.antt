use Rattle.codespan_core.proofs.Std.{◌≡◌, ◌++◌, drop, string_bytes, flat_map}
use Rattle.codespan_edits.specs.Edits.{ordered, text_edits}
use Rattle.codespan_suggestions.specs.FixIts.{fix_it}
use Rattle.codespan_suggestions.proofs.fix_it.push_fix_its.Given as goal

-- the lines so far and those of the edits left are all
abbrev pub invariant-loop-index : goal.invariant-loop-index
invariant-loop-index g l =
    let line = fix_it l.name l.lines.text.now in
    let all = ordered (text_edits l.file.edits.items) in
    string_bytes l.output ++ flat_map line (drop l.index-index all)
    ≡ string_bytes l.initial.output ++ flat_map line all
