pub mod TextsAscii
pub mod Times
