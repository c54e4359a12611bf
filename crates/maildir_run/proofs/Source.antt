-- What was read of a source, and which texts it may have had.

-- What one more read gives, and what a refused one leaves.
pub mod Givens
-- What a run has kept at its exits, for each text that its source may have had.
pub mod PossibleMessages
