pub mod FormsSeen
pub mod KindsSeen
