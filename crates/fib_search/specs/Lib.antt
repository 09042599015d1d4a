pub mod Alike
pub mod Node
pub mod Trie
