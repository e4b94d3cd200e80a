-- What the proofs of tasks share: names of the crates below. What the Prelude of model has is taken from there.
pub use Rattle.model.specs.declared.State.{State}
pub use Rattle.task_model.specs.Call.{part_at, part_ruled, Tasked, tasks_in, tasks_most, turn_most, turn_run, whole_refused, worked}
unfoldable pub use Rattle.task_model.specs.Call.{all_admissible, call_of, call_refusal, each_below, overlaps, part_clear, tasks_of, tasks_ruled}
pub use Rattle.task_model.specs.Schedule.{Desk, gave, Given, is_over, opened, running}
unfoldable pub use Rattle.task_model.specs.Schedule.{any_runs, call_by, count_by, refusal_by, rounds, turn_of, turns_from}
pub use Rattle.task_model.specs.Tasks.{mmix_in, Own, task_of}
unfoldable pub use Rattle.task_model.specs.Tasks.{owns}
pub use Rattle.task_model.proofs.Parts.{at_below}
pub use Rattle.task_model.proofs.SameCall.{call_same, SameDesk, SameStop}
unfoldable pub use Rattle.task_run.specs.RunIn.{run_in}
pub use Rattle.image.specs.Image.{image_as, is_image, state_of, stored_in}
pub use Rattle.image.proofs.Coded.{as_same, is_new', is_old', of_image}
pub use Rattle.image.proofs.RoundTrips.{keeps_length, round_trips}
