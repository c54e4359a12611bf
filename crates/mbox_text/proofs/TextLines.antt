-- The lines of a text, and its prefixes.

-- The lines of a text, and their quoting.
pub mod LineLemmas
-- Where the `\n` of a text stand.
pub mod LineEnds
-- What a text and its first line begin with.
pub mod Heads
