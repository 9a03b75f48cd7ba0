use Rattle.std.proofs.Common.{◌≡◌, ◌++◌, take}
use Rattle.gallery_cases.specs.Galleries.{with_escapes}
use Rattle.gallery_cases.proofs.gallery.add_with_escapes.Given as goal

abbrev pub invariant-loop-byte : goal.invariant-loop-byte
invariant-loop-byte l =
    l.gallery.items ≡ l.initial.gallery.items ++ with_escapes (take l.byte-index l.rendered)
