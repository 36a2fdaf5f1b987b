-- Statements, and phrases of each number of levels, are read exactly.
pub mod StatementsRead
pub mod LoopsRead
pub mod BodiesRead
pub mod EntriesRead
pub mod LevelsRead
pub mod ExpressionLaws
