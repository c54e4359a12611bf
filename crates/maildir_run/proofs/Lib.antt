-- The definitions and lemmas that the proofs use, imported in one place. Declares nothing.
pub mod Common
-- Names and bases, in finite maps and sets.
pub mod Names
-- What one call leaves, whatever other programs do meanwhile.
pub mod Call
-- What calls leave that were planned and made in order, up to the first that was refused.
pub mod Tasks
-- What was read of a source, and which texts it may have had.
pub mod Source
-- A run: what it was given and did, and that it owes what follows.
pub mod Run
-- Any number of runs over one text or several, and other programs' actions.
pub mod Chains
-- What `rewrite` and `list_text` write while a source is read.
pub mod Output
-- The folder in memory: its files, its script, and that it takes effect as reported.
pub mod Memory
