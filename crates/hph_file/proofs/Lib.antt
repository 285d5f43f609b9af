pub mod OneFault
pub mod FirstFaults
