mod Once
mod OnceOperators
mod OnceCalls
mod OnceBlocks
mod OnceLoops
mod OnceRules
mod OnceBodies
pub mod Placed
mod Worked
mod Examples
mod Forms
mod MoreForms
