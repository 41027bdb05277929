pub mod FileLemmas
pub mod PieceLemmas
