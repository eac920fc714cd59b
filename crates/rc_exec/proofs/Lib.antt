pub mod EffectSteps
pub mod ListLemmas
pub mod ShuffleLemmas
pub mod NumberLemmas
pub mod EveryoneLemmas
pub mod SoleLemmas
