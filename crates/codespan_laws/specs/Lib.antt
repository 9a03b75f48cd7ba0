-- what an output means: colors, and the order of labels; most laws are in `codespan_output`
pub mod ColorLaws
pub mod OrderLaws
