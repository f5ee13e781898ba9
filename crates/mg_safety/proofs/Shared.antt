-- Lemmas that several parts use: components of configurations, that the two sides agree, and what of what is shown stays so.
pub mod Components
pub mod Sides
pub mod ShownParts
