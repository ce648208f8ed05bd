pub mod Parts
pub mod ScanFaults
pub mod Fronts
pub mod Bodies
