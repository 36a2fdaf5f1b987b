-- Worked examples.
mod Examples
mod LevelExamples
