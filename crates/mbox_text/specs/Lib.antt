-- The lines of a text. A line ends with the byte 10, LF, as in the default format of RFC 4155, appendix A.
pub mod Lines
-- Which lines begin a message, and how a line of a body is quoted (qmail's mbox(5), the format that is called mboxrd).
pub mod Quoting
-- The From_ line of a message, as it is kept: without its `\n` (mbox(5)).
pub mod FromLine
-- The messages of an mbox text (mbox(5)).
pub mod Mbox
-- What a prefix of a text says of the messages of the whole text.
pub mod Prefixes
-- What a splitter keeps in memory of the text so far; no caller need read it.
pub mod Held
-- What a splitter has been fed, and which messages it has returned.
pub mod Fed
-- How a message is written (mbox(5)).
pub mod Spelling
-- Which bytes a writer has taken.
pub mod Writing
-- Definitions for private functions and proofs. No public contract uses them, and no reader need believe them.
pub mod Private
