-- A history of commands that the machine of plain data can have.

-- Files that have each of some messages at its target, and nothing else.
pub mod Filled
-- The machine of plain data at one moment of the history: its Maildir has some of the files, and a power cut leaves these.
pub mod Moments
-- The episodes of the history, one after the other.
pub mod Happening
-- A text with two messages, whose bodies are empty.
pub mod Example
