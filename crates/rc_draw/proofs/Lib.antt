mod ShuffleSteps
mod RowLemmas
mod KeyLemmas
mod BlockLemmas
