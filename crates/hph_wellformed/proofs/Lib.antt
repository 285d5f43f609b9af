pub mod SourceInts
pub mod SourceTokens
pub mod CodePlaces
pub mod TokenPlaces
pub mod DeclaredPlaces
pub mod Sources
pub mod PlacesApart
pub mod SourceLaw
