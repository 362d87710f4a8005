pub mod ChangeLemmas
pub mod DepthLemmas
pub mod LastLemmas
pub mod PieceLemmas
pub mod StmtLemmas
pub mod WholeLemmas
