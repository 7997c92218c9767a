-- Lemmas on the order of names.
mod Heads
