pub mod LinkState
