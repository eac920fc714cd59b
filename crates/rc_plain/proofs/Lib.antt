pub mod EffectSteps
pub mod StageLemmas
pub mod PathLemmas
pub mod StepCases
pub mod PlayLemmas
pub mod KeptLemmas
pub mod SiteLemmas
pub mod MachineLemmas
mod NamingLemmas
