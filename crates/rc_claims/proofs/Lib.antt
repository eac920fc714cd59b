mod ViewLemmas
mod ClaimLemmas
mod CutLemmas
