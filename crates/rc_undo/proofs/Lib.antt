pub mod UndoLemmas
pub mod PastLemmas
pub mod KeepsLemmas
pub mod PiledLemmas
pub mod OrderLemmas
pub mod EachLemmas
pub mod GatherLemmas
