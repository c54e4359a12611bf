-- What `rewrite` and `list_text` write while a source is read.

-- A source that is read piece by piece while what belongs to its messages is written.
pub mod Poured
-- Messages that are written one after the other.
pub mod Each
-- The table of messages that are listed one after the other.
pub mod TableRows
