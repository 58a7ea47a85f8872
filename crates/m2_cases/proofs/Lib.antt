mod Declarations
mod ProcedureRows
mod ReadSamples
mod Samples
