-- Bases and this converter's names.
pub mod NameLemmas
-- Lines, headers and fields.
pub mod FlagLemmas
-- The targets of lists of bodies.
pub mod TargetLemmas
-- The bases of targets: their parts, and that they are this converter's.
pub mod BaseLemmas
-- The counts of a namer, and the bodies that it has named.
pub mod NamerLemmas
-- The bases of the targets of one text: this converter's, and distinct.
pub mod DistinctBases
-- The bases of equal bodies.
pub mod EqualBodies
-- Bodies with the same digest.
pub mod Digests
