-- Which errors are `Io`.
use Rattle.codespan_core.specs.declared.files.error.Error.{Error}
use Rattle.codespan_core.specs.declared.files.error.Error.TheVariants.{Io}

-- the error is `Io`
abbrev pub IsIo : Error → Type 0
IsIo (Io e) = Unit {0}
IsIo _ = ⊥
