pub mod TextKinds
