-- Sources that break off.
pub mod Broken
