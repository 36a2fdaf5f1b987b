mod AsciiNames
mod FirstUp
mod Whole
