pub mod LinkMaps
