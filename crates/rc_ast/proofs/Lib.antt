pub mod ViewLemmas
