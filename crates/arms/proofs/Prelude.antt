-- What the proofs of arms share: names of the crates below. What the Prelude of model has is taken from there.
pub use Rattle.model.specs.declared.Reply.{Reply}
pub use Rattle.model.specs.declared.Reply.TheVariants.{Done, Hidden, Missing, NoSpecial, SyncIllegal, SyncPrivileged}
pub use Rattle.model.specs.declared.State.{State}
pub use Rattle.model.specs.contracts.Reply.{the_type}
pub use Rattle.stack.specs.GivenBack.{Gives, placed}
unfoldable pub use Rattle.stack.specs.GivenBack.{only_if}
pub use Rattle.stack.specs.PushPop.{PopGives, return_to}
unfoldable pub use Rattle.stack.specs.PushPop.{pop_answer, pop_in, pop_number, push_in}
pub use Rattle.stack.proofs.PassedOctas.{octa_read, octa_written}
unfoldable pub use Rattle.contexts.specs.SaveUnsave.{save_in, unsave_in}
pub use Rattle.exceptions.specs.Told.{Told}
pub use Rattle.exceptions.proofs.PcAndHalt.{goes_is, halted_is, next_is}
