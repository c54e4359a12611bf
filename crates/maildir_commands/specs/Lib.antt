-- Why a command ended with a fault.
pub mod Causes
-- The words of the command line, and what they ask for.
pub mod Words
-- Which fault a command returns for what failed, and the line that reports it.
pub mod Faults
-- What is printed of a conversion.
pub mod Report
-- What is written of a source's text.
pub mod Output
-- What a machine has at a path, and when several texts fit into it, and are safe there.
pub mod Machines
-- What is seen of a machine, of a Maildir that is open, and of the program's streams, at one moment.
pub mod Seen
-- What the calls of a machine do that open sources, and that open and close Maildirs.
pub mod Opening
-- What the delivery of one source does.
pub mod Sources
-- What a command does to Maildirs: the clause of `run` on them.
pub mod Commands
-- What happens to a Maildir: commands, other programs and power cuts, one after the other.
pub mod Episodes
-- The promise on any commands, on one page: what is promised, what is assumed, what may happen, and what a command does to Maildirs.
pub mod Promise
-- What a command does, and how it ends.
pub mod Program
-- A command that is killed.
pub mod Killed
-- Definitions for private functions and proofs. No public contract uses them, and no reader need believe them.
pub mod Private
