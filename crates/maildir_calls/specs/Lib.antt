-- What the answers of calls mean.
pub mod Answers
-- How a file is made, emptied, moved and removed.
pub mod Files
-- The calls that were made of a file system, and what is known of them.
pub mod Made
-- What is kept open of a Maildir, and the calls that its methods make.
pub mod Maildirs
-- How a Maildir is opened.
pub mod Opening
-- The kind of a file, and its owner.
pub mod Own
-- The paths of a Maildir.
pub mod Paths
-- When a file was last changed.
pub mod Stamps
-- How folders are synced.
pub mod Syncs
