pub mod StatementPlaces
