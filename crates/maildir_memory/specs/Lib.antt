-- The log of the files that the calls of a system in memory touched.
pub mod Logs
-- What contracts see of a Maildir and of a machine of plain data.
pub mod Plain
-- Proofs of laws of the trait `Machine`, for the machine of plain data.
pub mod Laws
-- What a machine in memory has under a word.
pub mod MemMachines
-- A history of commands that the machine of plain data can have, and for which all that is assumed of any commands holds.
pub mod Histories
-- The calls of a file system in memory, as they were recorded.
pub mod Recorded
