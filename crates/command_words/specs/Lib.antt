pub mod Step
pub mod Form
pub mod Status
pub mod Line
