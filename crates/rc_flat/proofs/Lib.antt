pub mod StepCases
pub mod PlayLemmas
pub mod ShallowLemmas
pub mod PlaceLemmas
pub mod OfferedLemmas
pub mod KeptLemmas
pub mod MomentLemmas
pub mod StartLemmas
pub mod SitePlaceLemmas
pub mod MarkLemmas
pub mod HomeLemmas
pub mod GoingLemmas
mod NamingLemmas
