-- Expressions are read exactly.
pub mod BlocksRead
pub mod StringsRead
pub mod LambdasRead
pub mod ConditionalsRead
pub mod TriesRead
pub mod SuffixesRead
pub mod PrimariesRead
pub mod PrefixesRead
pub mod OperatorsRead
