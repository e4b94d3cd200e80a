-- What the proofs of contexts share: names of the crates below. What the Prelude of model has is taken from there.
pub use Rattle.model.specs.Contexts.{below}
pub use Rattle.model.specs.declared.Reply.{Reply}
pub use Rattle.model.specs.declared.Reply.TheVariants.{Across, Done, Missing, NotAdmissible, SavedCount, SavedStatus, SavedThreshold, SaveLocal}
pub use Rattle.model.specs.declared.State.{State}
pub use Rattle.machine.specs.Octas.{lent_one, read_octa, room_in, written_octa, written_range, written_run}
unfoldable pub use Rattle.machine.specs.Octas.{written_range_by}
pub use Rattle.machine.proofs.BothOctas.{puts_none, puts_run, puts_tab, read_in, read_mod, run_more, run_read, store_b, whole_b, written_lengths}
pub use Rattle.machine.proofs.RunTest.{has_room, held_b, held_range', no_room, room_ends, room_has, run_end}
pub use Rattle.stack.proofs.Judged.{guarded_only, guarded_open, judged_by, missing_by, only_one, only_open, refused_guarded, unruled_by_law}
