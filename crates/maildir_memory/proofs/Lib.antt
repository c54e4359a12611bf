-- Calls of a Maildir of plain data, and of the machine that has it.
pub mod Plain
-- A history of commands that the machine of plain data can have.
pub mod Histories
-- A word without a slash at its end.
pub mod Slashes
