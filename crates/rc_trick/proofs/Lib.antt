pub mod Computed
pub mod Accepted
mod Within
