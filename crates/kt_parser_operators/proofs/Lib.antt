pub mod OneTurn
pub mod SeenBehind
pub mod BehindValue
