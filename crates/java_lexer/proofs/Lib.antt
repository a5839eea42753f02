mod Bytes
mod Counts
mod KindLemmas
mod Pieces
mod Reading
