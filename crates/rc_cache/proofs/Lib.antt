pub mod CacheLemmas
pub mod DistinctLemmas
pub mod KeptLemmas
pub mod LaneLemmas
pub mod MarkLemmas
pub mod ReplayLemmas
pub mod WorkerLemmas
