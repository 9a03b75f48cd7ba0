-- a renderer, as its contracts see it
pub mod Renderers
-- definitions for proofs, and for the contracts of calls that users do not name
pub mod Private
-- all of their names
unfoldable pub use Rattle.codespan_renderer.specs.Renderers.*
