-- Parts of sheets without their offsets.
pub mod Forms
pub mod Mentions
pub mod Parts
pub mod Sight
