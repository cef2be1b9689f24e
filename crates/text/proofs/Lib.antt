mod Numerals
mod FirstLine
