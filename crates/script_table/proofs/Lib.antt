pub mod MappedPlaces
