-- What the proofs of task_model share: names of the crates below. What the Prelude of model has is taken from there.
unfoldable pub use Rattle.model.specs.Plan.{needs}
pub use Rattle.model.specs.declared.State.{State}
pub use Rattle.model.proofs.Instance.{lent}
