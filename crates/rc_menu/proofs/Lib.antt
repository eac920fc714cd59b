pub mod Offers
pub mod AlikeLemmas
pub mod AskLemmas
pub mod RowOffers
pub mod FollowingLemmas
pub mod KnownLemmas
pub mod PartLemmas
