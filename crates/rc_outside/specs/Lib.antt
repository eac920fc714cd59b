pub mod Adapted
pub mod Calls
pub mod Faults
pub mod ReadFail
pub mod Sink
pub mod Source
pub mod Store
pub mod Supply
