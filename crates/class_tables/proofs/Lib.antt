mod Placing
mod Slotting
