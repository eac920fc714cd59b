pub mod Following
pub mod Menu
pub mod AlikeMenus
pub mod Alike
pub mod Asks
pub mod Known
pub mod Bounds
