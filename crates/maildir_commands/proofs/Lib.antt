-- The definitions and lemmas that the proofs use, imported in one place.
pub mod Common
-- Messages that differ at most in their places and names: what is said of bases and bodies holds of both.
pub mod SameMessages
-- Why a command ended with a fault.
pub mod Causes
-- What came of delivering several texts.
pub mod Delivered
-- What the words ask for.
pub mod Forms
-- What the delivery of one source owes, as the work goes on.
pub mod Delivering
-- Files that are delivered one after the other, once a first source was.
pub mod Files
-- A conversion: sources are opened, then the Maildir, which is closed once they were delivered.
pub mod Converting
-- What is kept in a Maildir through a run, and through the sync after it.
pub mod Storing
-- What is owed for a request, as the work goes on.
pub mod Requests
-- Which bases have a home, from one moment to another.
pub mod Known
-- Several texts that are delivered one after the other.
pub mod Several
-- Lines of runs that are printed one after the other.
pub mod Reports
-- What a buffer is given, and what it hands on.
pub mod Output
-- A Maildir that rests, or in which no other program acts.
pub mod Resting
-- What a command did to Maildirs, by its words and its status.
pub mod Ending
-- What any commands leave of a Maildir that follow one another.
pub mod AnyCommands
-- What any commands over one text leave of a Maildir into which no other text goes.
pub mod OneText
-- Texts that fit into one Maildir, as a mailbox that grew and what it was.
pub mod Fitting
-- What is said of a history where more messages are spared holds where fewer are.
pub mod Fewer
-- Which files a conversion touched.
pub mod Touching
-- A process that is killed: calls that are not made, and what it leaves.
pub mod Killing
