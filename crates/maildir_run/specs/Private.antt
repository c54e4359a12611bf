-- Definitions for private functions and proofs. No public contract uses them, and no reader need believe them.

-- The bases of names, as a set.
pub mod Bases
-- How far a source was read, and which messages were given of it.
pub mod Given
-- The calls that a part of a run makes, and the fault that it answers for one.
pub mod Counting
-- A run's tasks where the folder is quiet, and in the files and what a power cut leaves of them together.
pub mod Tasks
-- What the parts of a run say of what they did.
pub mod Parts
-- What the parts of a run leave.
pub mod Progress
-- What is written of messages that are printed one after the other.
pub mod Printing
-- Whether half of a rename comes.
pub mod Script
-- How a call of the folder in memory begins.
pub mod MemFolder
