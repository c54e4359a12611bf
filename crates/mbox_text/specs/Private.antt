-- Definitions for private functions and proofs. No public contract uses them, and no reader need believe them.

-- The first line of a text, and the first line of a body that is to be quoted.
pub mod Lines
-- Messages that stay the same, whatever comes after the text.
pub mod Prefixes
-- How a splitter changes with a part of the text: it moves on, or refuses the part.
pub mod Moved
