pub mod LeafChecks
