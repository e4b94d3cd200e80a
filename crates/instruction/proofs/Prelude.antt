-- What the proofs of instruction share: names of the crates below. What the Prelude of model has is taken from there.
pub use Rattle.model.specs.declared.State.{State}
pub use Rattle.decode.proofs.Groups.{branch_arm}
unfoldable pub use Rattle.stack.specs.GivenBack.{guarded_on, refusal_on}
pub use Rattle.stack.proofs.Judged.{judged_by, refused_guarded, refused_none}
pub use Rattle.stack.proofs.PassedOctas.{held_inside, held_none, octa_held}
pub use Rattle.stack.proofs.PushPopAnswers.{admissible_placed}
pub use Rattle.arms.specs.Arms.{NoCall}
unfoldable pub use Rattle.arms.specs.Arms.{branch_of, ranged_of}
pub use Rattle.arms.proofs.ArmSteps.{only_step, quiet_step, touching_step}
