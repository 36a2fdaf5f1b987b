pub mod Behind
pub mod Expanding
pub mod Fitting
pub mod FrameErrs
pub mod Putting
pub mod StepSeen
