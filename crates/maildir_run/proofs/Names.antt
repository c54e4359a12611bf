-- Names and bases, in finite maps and sets.

-- Folders by what they hold under a test of their names.
pub mod Maps
-- Sets of bases: what each change leaves in them.
pub mod Sets
