-- A Maildir on a file system: its files, the clock, and when each folder was last changed.
pub mod World
-- What the system calls of a write do: make or empty a file of `tmp`, append to it, sync it.
pub mod Writing
-- What it means that a placement finds no file.
pub mod Placing
-- What is seen of a system at one moment, and what its calls do to that.
pub mod SeenSystem
-- What is seen of a Maildir on a file system, and what a sync of it does.
pub mod Seen
-- What a power cut may leave of the messages of a text.
pub mod PowerCuts
-- What a run over one text, and a sync, leave of the messages of other texts.
pub mod Others
-- How the stamp of a folder compares with the clock.
pub mod Stamps
-- Why a listing cannot wait less than it does.
pub mod Misread
-- What a system call does while no other program acts.
pub mod Quiet
-- Which fault a failed system call becomes.
pub mod Faults
-- Definitions for private functions and proofs. No public contract uses them, and no reader need believe them.
pub mod Private
