mod Lengths
mod Words
