pub mod SightLemmas
pub mod Telling
pub mod KeyLemmas
pub mod InShape
pub mod Fitting
pub mod ShortKeys
