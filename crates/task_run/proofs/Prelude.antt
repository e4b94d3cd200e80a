-- What the proofs of task_run share: names of the crates below. What the Prelude of model has is taken from there.
pub use Rattle.model.specs.declared.State.{State}
pub use Rattle.machine.specs.Octas.{read_octa}
unfoldable pub use Rattle.stack.specs.GivenBack.{refusal_on}
pub use Rattle.stack.proofs.Judged.{judged_by}
pub use Rattle.stack.proofs.PassedOctas.{held_inside, held_none, octa_held}
pub use Rattle.instruction.specs.StepAnswer.{RunNumbered}
pub use Rattle.instruction.proofs.RunTurned.{passed}
unfoldable pub use Rattle.task_model.specs.Call.{part_ruled}
pub use Rattle.task_model.specs.Tasks.{Own}
unfoldable pub use Rattle.task_model.specs.Tasks.{any_foreign, foreign, mmix_in, owns, refusing_in}
pub use Rattle.task_model.proofs.AnyForeign.{any_append, any_mod, any_one, any_run, clear_none, foreign_mod, missing_any, or_none}
