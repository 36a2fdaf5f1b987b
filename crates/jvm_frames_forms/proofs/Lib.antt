pub mod KindsTell
