-- What one call leaves, whatever other programs do meanwhile.

-- What the homes of a converter's base hold, after an action of another program.
pub mod Homes
-- What a call's moves leave: of the homes of a base, and of a name in tmp.
pub mod Moves
-- What a power cut leaves, where it leaves all that is there; and from one moment to another.
pub mod Cuts
-- An action outside reaches just the states that leave the converter's names as they are.
pub mod Outsiders
-- What is said where more are spared holds where fewer are.
pub mod Fewer
-- Which files are touched from one moment to another.
pub mod Touching
-- How many converter's names tmp has, as other programs act.
pub mod Leftovers
-- A base that two listings do not show has no home.
pub mod ListedNowhere
-- What one call of a run gives, in the words of a run.
pub mod Steps
-- What the three listings tell together.
pub mod FolderListings
