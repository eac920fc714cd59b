mod ClapLemmas
mod OptionLemmas
mod SettingLemmas
mod StepLemmas
pub mod OneCommand
pub mod Within
mod WordLemmas
pub mod AcceptedLaws
pub mod SourceAnswers
pub mod BenchLaws
pub mod Cards
pub mod Exits
pub mod FirstFaults
pub mod Measured
pub mod OneAnswer
pub mod OneReading
pub mod Notes
pub mod PlanLaws
pub mod PlayedLaws
pub mod PlayedLemmas
pub mod PlaysLaw
pub mod PlaysLemmas
pub mod PrintedTwice
pub mod SomeAnswer
pub mod Verdicts
pub mod WatchedLaws
mod RivalRecords
mod WatchedSites
mod WatchedRecords
pub mod EndsLemmas
pub mod OutcomeLemmas
pub mod PlayingLemmas
