pub mod TurnedRows
pub mod StepElements
