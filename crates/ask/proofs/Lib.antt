mod Numerals
mod Words
mod Steps
mod Replied
