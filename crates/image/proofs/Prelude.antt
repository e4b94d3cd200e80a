-- What the proofs of image share: names of the crates below. What the Prelude of model has is taken from there.
pub use Rattle.model.specs.declared.State.{State}
unfoldable pub use Rattle.machine.specs.Octabytes.{flat, loaded_octas, octas, stored_octas}
pub use Rattle.machine.proofs.OctabyteRuns.{flat_append, length_flat, length_octas, loaded_fits, octas_append, stored_fits, written_all}
