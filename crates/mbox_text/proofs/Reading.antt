-- Which messages a text has, and which a text with this prefix may have.

-- A body without its last line if that is `\n` alone.
pub mod Chopped
-- The last message of a text.
pub mod Last
-- Texts that are read as a whole: one that is no mbox text, and one that is.
pub mod WholeTexts
-- A text is in `Mbox` with one list of entries.
pub mod OneReading
-- A text that begins with `From ` has messages: what a splitter holds of it, byte by byte.
pub mod Existence
-- The messages of a prefix are a prefix of the messages.
pub mod Prefixes
-- Texts that are in `Mbox` with no list of messages.
pub mod Unreadable
-- The returned messages are a prefix of the messages of each text that begins with the text so far.
pub mod FirstGiven
