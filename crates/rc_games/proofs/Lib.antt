mod FoundLemmas
mod RedrawnLemmas
