-- Any number of runs over one text or several, and other programs' actions.

-- The messages of a text: their bases are a converter's, and no two are the same.
pub mod MessageLemmas
-- Which number the base of each message of a text has.
pub mod BaseNumbers
-- What any list of runs and actions leaves.
pub mod Chains
-- How often a body is there, before a run over one of several texts and after it.
pub mod Levels
-- What runs over any of several texts, and actions of other programs, leave.
pub mod SeveralTexts
-- For one text, what is said of several is what is said of it.
pub mod OneText
