use Rattle.std.proofs.Common.{◌≡◌, drop}
use Rattle.codespan_native.specs.StatedLines.{bytes_ascend_from, locations_ascend}
use Rattle.codespan_native.proofs.stated_lines.locations_ascend.Given as goal

-- the locations that are left decide
abbrev pub invariant-loop-location : goal.invariant-loop-location
invariant-loop-location l =
    bytes_ascend_from l.first_byte l.byte (drop l.location-index l.rest)
    ≡ locations_ascend l.first_byte l.locations
