-- A call of the folder on a disk, from the calls of the system.
-- What a call of the folder did, from what its last system call did.
pub mod Answered
-- Consequences of what is assumed of a system.
pub mod Passing
-- A write that appends in several steps, between which other programs act, is one write at the moment when its file was made.
pub mod Pieces
-- A write that appends in several steps while no other program acts.
pub mod QuietWrites
-- Several calls in sequence in which only other programs acted.
pub mod Looking
-- A listing, from the calls of the system.
pub mod Listings
-- A listing, and then a sync of the folder.
pub mod Durable
-- What the folder's calls of its system do, which it makes only where no sync has failed.
pub mod Syncing
-- A write, from the calls of the system.
pub mod Writes
-- Calls that failed.
pub mod Refused
