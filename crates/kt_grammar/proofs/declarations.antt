-- Declarations and files are read exactly.
pub mod ModifiersRead
pub mod ParametersRead
pub mod FunctionsRead
pub mod ClassesRead
pub mod ConstantsRead
pub mod FilesRead
pub mod FileLaws
