pub mod UnitLemmas
pub mod LineLemmas
pub mod PrefixLemmas
pub mod CutLemmas
pub mod ErrorLemmas
pub mod LawLemmas
pub mod RangeLemmas
pub mod LabelLemmas
