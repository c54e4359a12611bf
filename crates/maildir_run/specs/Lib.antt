-- The three folders of a Maildir.
pub mod Folders
-- The files of a Maildir, and what other programs may do to them.
pub mod Files
-- What the messages of a text are in a folder: missing or at home, sound, delivered.
pub mod Delivery
-- The messages of a text, as a folder is to have them.
pub mod Texts
-- What one run owes, and chains of runs, with any answers, and other programs' actions.
pub mod Runs
-- The calls of a folder: the effect of each, and what may happen before, within and after it.
pub mod Calls
-- Which files the calls of this program touch, whatever other programs do.
pub mod Touched
-- What contracts see of a folder, and what a call does to that.
pub mod Seen
-- What a power cut may leave of a folder, from one call to the next.
pub mod Cuts
-- The steps of a run, given what is listed and the targets.
pub mod Plan
-- Which calls each part of a run makes.
pub mod Parts
-- What a run did with its folder: planned calls, in order, up to the first that failed.
pub mod Tasks
-- What a run did.
pub mod Converting
-- How a run counts its folder calls, and what its faults say of them.
pub mod Counting
-- What a quiet run leaves.
pub mod Alone
-- What a quiet run keeps of other programs' files.
pub mod Foreign
-- How much a call reads of its source, and the faults of reading.
pub mod Reading
-- Several texts that go into one Maildir: what is sound for all of them, and what runs over any of them leave.
pub mod Several
-- What a call writes to its output, for the texts that its source may have had.
pub mod Output
-- The table that is written of a text: one row a message (this project's own rule).
pub mod Table
-- The files of one folder in memory, as a finite map.
pub mod FileTree
-- The files of a folder in memory.
pub mod MemFiles
-- What a script makes of a folder in memory: what other programs do before its calls, and which calls fail or come twice.
pub mod Script
-- What a folder in memory shows.
pub mod MemFolder
-- Definitions for private functions and proofs. No public contract uses them, and no reader need believe them.
pub mod Private
