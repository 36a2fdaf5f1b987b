-- Parts of productions, and how a production is built of them.
pub mod Sequences
pub mod Choices
pub mod Optionals
pub mod Unless
pub mod Refused
pub mod Below
pub mod Firsts
pub mod Left
pub mod Productions
pub mod Alternatives
pub mod SeveralUntil
pub mod Enclosed
