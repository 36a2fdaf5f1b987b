pub mod Files
pub mod OneAnswer
pub mod EachSource
