pub mod Everyone
