-- What a splitter keeps and returns, piece after piece.

-- What a splitter keeps in memory, step by step.
pub mod HeldLemmas
-- What a splitter keeps in memory, over the fields as the code changes them.
pub mod Fields
-- Whole lines that are added to a body, unquoted.
pub mod Runs
-- Which messages a splitter has returned: all but the last, whatever comes after the text.
pub mod Giving
-- What `finish` returns.
pub mod Finishing
