pub mod GivenPieces
