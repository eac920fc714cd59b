mod Decided
mod Observing
mod StatedOrders
