mod Trees
mod Examples
mod ClassTrees
mod ObjectExamples
mod FlowExamples
mod ClassExamples
mod KeepingParts
mod KeepingEval
pub mod Whole
