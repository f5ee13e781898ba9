-- The entries that a certificate lists are those of the model; they have this name beside the code's `Entry`.
pub use Rattle.mg_model.specs.Entries.{Entry as Listed, choices_of, size_of, numbered, Allows, Includes, IsPointOf}
