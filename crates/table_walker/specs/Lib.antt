pub mod TableWalker
