-- the writers of docs/WRITERS.md
pub mod Tags
