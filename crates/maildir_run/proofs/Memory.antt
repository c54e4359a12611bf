-- The folder in memory: its files, its script, and that it takes effect as reported.

-- Trees of files, seen as finite maps: what each change leaves.
pub mod Trees
-- What a script makes of a folder in memory is what other programs and a call may do.
pub mod Scripts
-- What a call of the folder in memory did that followed its script.
pub mod Followed
