pub mod FormLaws
pub mod FrameLaws
pub mod TypeLaws
