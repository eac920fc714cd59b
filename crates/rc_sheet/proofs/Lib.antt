mod AlternativeLemmas
mod EffectLemmas
mod Forms
mod InTurn
mod ItemLemmas
mod Lists
mod MadeLemmas
mod Parts
mod Numbers
mod Places
mod PlainLemmas
pub mod Faces
mod Sheets
mod Readings
mod Sizes
pub mod Accepted
pub mod Means
pub mod Among
pub mod Shapes
pub mod Bodies
mod Gathered
mod Used
pub mod Given
pub mod Silent
mod Entries
pub mod Lands
pub mod Lines
mod Setups
pub mod Whole
pub mod Faultless
mod Agreed
pub mod Found
mod Bound
pub mod Room
pub mod Fine
mod AllFine
pub mod FewNames
mod FewOwned
mod Finds
pub mod GoodParts
mod GoodForms
mod CountedItems
mod SheetSetup
pub mod TeamNumbers
pub mod MapsInTurn
pub mod ReadOff
pub mod Mentioned
mod Shallow
mod SetupCounts
mod PlayersAndTeams
mod ReadLimits
pub mod OwnedNames
mod Within
mod WellFormed
mod ShapedParts
mod PlainWords
mod SomePlayers
pub mod One
pub mod Unplaced
pub mod Moved
mod LineFeeds
pub mod PrintedAgain
pub mod Sound
pub mod Shaped
