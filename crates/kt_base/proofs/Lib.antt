pub mod Ascending
pub mod Legal
pub mod RoundTrip
pub mod Utf16
