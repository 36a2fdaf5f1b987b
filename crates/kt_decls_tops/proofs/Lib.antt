mod ClassParts
mod ClassesSo
mod ConstantsSo
mod Declared
mod FunctionsSo
mod Takings
