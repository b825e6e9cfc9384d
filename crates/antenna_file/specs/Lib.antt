pub mod AntennaState
