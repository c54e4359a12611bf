-- The path at which a Maildir on the file system was opened.
pub mod Paths
