-- Ranges of a file, and the errors of the calls that look them up.
use Rattle.std.specs.Prelude.{ℕ, min, max, Option}
use Rattle.std.specs.declared.ops.Range as ops
use Rattle.codespan_base.specs.FileModel.{FileModel, Lookup, or_failure}
use Rattle.codespan_base.specs.declared.files.Error.{Error}
use Rattle.codespan_lsp.specs.Positions.{position_of, position_failure, IsByteAt, byte_failure}
use Rattle.codespan_lsp.specs.declared.encoding.PositionEncoding.{PositionEncoding}
use Rattle.codespan_lsp.specs.declared.spans.Range.{Range}

-- a span of bytes from the lesser of its ends to the greater
abbrev pub ordered_span : ops.Range ℕ → ops.Range ℕ
ordered_span span = record {
  start = min span.start span.end;
  end = max span.start span.end;
}

-- the range of a span of bytes
abbrev pub range_of : PositionEncoding → FileModel → ops.Range ℕ → Range
range_of encoding f span = record {
  start = position_of encoding f span.start;
  end = position_of encoding f span.end;
}

-- the error of a span's range: that of its start, or of its end
abbrev pub range_failure : PositionEncoding → FileModel → (Lookup → Option Error)
    → ops.Range ℕ
    → Option Error
range_failure encoding f failure span =
    or_failure (position_failure encoding f failure span.start)
    (position_failure encoding f failure span.end)

-- a span goes from the byte at the range's start to the byte at its end
pub record IsSpanOf (encoding : PositionEncoding) (f : FileModel) (range : Range)
    (span : ops.Range ℕ) : Type 0 where
  pub from_start : IsByteAt encoding f range.start span.start
  pub to_end : IsByteAt encoding f range.end span.end

-- the error of a range's span: that of its start, or of its end
abbrev pub span_failure : PositionEncoding → FileModel → (Lookup → Option Error) → Range
    → Option Error
span_failure encoding f failure range =
    or_failure (byte_failure encoding f failure range.start)
    (byte_failure encoding f failure range.end)
