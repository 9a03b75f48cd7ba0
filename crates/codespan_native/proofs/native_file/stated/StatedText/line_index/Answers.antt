use Rattle.std.proofs.Common.{◌≡◌, ◌-◌, ◌≤◌, None, leb, rules}
use Rattle.std.proofs.lemmas.List.{length-map}
use Rattle.std.proofs.lemmas.List.Sorted.{IsPartitionPoint-from_clause}
use Rattle.codespan_base.specs.FileModel.{line_of}
use Rattle.codespan_native.specs.declared.raw.RawLine.{RawLine}
use Rattle.codespan_native.specs.StatedLines.{starts_of}
use Rattle.codespan_native.specs.Lemmas.NativeFiles.{stated_is_lawful}
use Rattle.codespan_native.proofs.Searches.{line_found, parted}
use Rattle.codespan_native.proofs.native_file.stated.StatedText.line_index.Goals.{After-partition_point}
use Rattle.codespan_native.proofs.native_file.stated.StatedText.line_index.Goals as goal

-- the lines that start at the byte or before it are counted, and there is one
counted : (c : After-partition_point) → (1 ≤ c.partition_point.result)
    × (c.partition_point.result - 1 ≡ line_of
    (starts_of c.args.self.now.first_byte c.args.self.now.lines.now) c.args.byte_index)
counted c =
    let t = c.args.self.now in
    let law = stated_is_lawful t (λ _. None) in
    let point = IsPartitionPoint-from_clause
    (λ (l : RawLine). leb (l.start - t.first_byte) c.args.byte_index) _ _
    c.partition_point.ensures.partitioned
    (parted t.first_byte t.lines.now law.ascending c.args.byte_index)
    (λ a r q k. search rules) in
    line_found t.first_byte t.lines.now c.args.byte_index _ c.partition_point.ensures.bound
    (rw (length-map t.lines.now (λ (l : RawLine). l.start - t.first_byte)) at law.has_line)
    law.first point

pub overflow_sub-result : goal.overflow_sub-result
overflow_sub-result c = (counted (goal.at.overflow_sub-result c).After-partition_point).0

pub returns : goal.returns
returns c = (counted (goal.at.returns c).After-partition_point).1
