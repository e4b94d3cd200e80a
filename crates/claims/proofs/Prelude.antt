-- What the proofs of claims share: names of the crates below. What the Prelude of model has is taken from there.
unfoldable pub use Rattle.model.specs.Plan.{needs}
pub use Rattle.model.specs.declared.State.{State}
pub use Rattle.model.proofs.Instance.{lent}
unfoldable pub use Rattle.machine.specs.Octabytes.{flat, octas}
pub use Rattle.task_model.specs.Anywhere.{AlikeThere, at_call, at_pop, called_at, CalledThere, caller_at, CallerThere, call_turn, CameBack, Cut, hole_at, popped_at}
pub use Rattle.task_model.specs.Anywhere.{PopsThere, pop_turn, PrivateThere, pushed_at, Reading, turns_cut, turns_to_pop}
pub use Rattle.task_model.specs.Call.{part_at, Tasked, tasks_in, tasks_most, whole_refused, worked}
unfoldable pub use Rattle.task_model.specs.Call.{all_admissible, call_of, call_refusal, each_below, overlaps, part_clear, part_ruled, tasks_of, tasks_ruled, turn_run}
pub use Rattle.task_model.specs.CallApart.{CalledIn, turns_tried}
pub use Rattle.task_model.specs.Lent.{among_all}
unfoldable pub use Rattle.task_model.specs.Lent.{Once, picked, put_back, renamed, TurnsBelow}
pub use Rattle.task_model.specs.Parked.{Asks, ComesBack, Context, saved_by, UnparksTo, until_unsave}
pub use Rattle.task_model.specs.ParkedAnywhere.{at_save, at_unsave, Park, saved_at, saver_at, SaverThere, saver_x, save_turn, turns_parked, turns_to_unsave, Unparked}
pub use Rattle.task_model.specs.ParkedAnywhere.{unsave_turn}
pub use Rattle.task_model.specs.Schedule.{Desk, gave, Given, is_over, opened, running}
unfoldable pub use Rattle.task_model.specs.Schedule.{any_runs, call_by, count_by, refusal_by, rounds, turn_of, turns_from}
pub use Rattle.task_model.specs.TaskDemand.{after_turns, any_parts, Condition, Disjoint, GivesBackTo, OthersKept, OwnFrame, pop_in, PopMetIn, PrivateTo}
pub use Rattle.task_model.specs.TaskDemand.{TasksAlike, turn_on}
unfoldable pub use Rattle.task_model.specs.TaskDemand.{own_needs, PartsApart}
pub use Rattle.task_model.specs.Tasks.{mmix_in, Own, task_of, Turn, turn}
unfoldable pub use Rattle.task_model.specs.Tasks.{foreign, owns, refusing_in, studies, turn_judge, turn_needs, turn_plan, without32}
pub use Rattle.task_model.specs.TasksMeant.{CallListed, SameTasks, SameTurns}
unfoldable pub use Rattle.task_model.specs.TasksMeant.{tried_answers, tried_turns}
pub use Rattle.task_model.proofs.Anywhere.{any_claimed, anywhere_by, Claimed, own_claimed, to_pop, to_pop_memory, turns_shape, twice_by}
pub use Rattle.task_model.proofs.CallOrder.{tasks_by, TasksPass}
pub use Rattle.task_model.proofs.Callers.{turn_shape, turns_off}
pub use Rattle.task_model.proofs.Cuts.{cut_ends}
pub use Rattle.task_model.proofs.Foreign.{foreign_meant}
pub use Rattle.task_model.proofs.Judge.{studies_sound, whole, whole_judge}
pub use Rattle.task_model.proofs.Lent.{below_tried, lent_turns, picked_length, placed_at, placed_length}
pub use Rattle.task_model.proofs.Listed.{call_listed, given_listed, turn_listed}
pub use Rattle.task_model.proofs.Parts.{apart_append, call_ruled, CallRuled, parts_meant}
pub use Rattle.task_model.proofs.SameCall.{Beside, call_beside}
pub use Rattle.task_model.proofs.Schedule.{call_keeps, ran_by}
pub use Rattle.task_model.proofs.TaskDemand.{demand3_tasks, set_alike}
pub use Rattle.task_model.proofs.Turns.{turn_is}
pub use Rattle.task_model.proofs.WithoutTasks.{mmix_shape, needs_whole, turn_whole}
pub use Rattle.image.specs.Image.{has_room, is_image, is_old}
unfoldable pub use Rattle.image.specs.Image.{image_as, image_of, old_image_of, state_of}
pub use Rattle.image.proofs.Coded.{as_same, at_most, chosen, if_image, if_other, image_same, is_new', is_old', of_image, room_image, room_same, stored_is}
pub use Rattle.image.proofs.Fronts.{state_full}
pub use Rattle.image.proofs.RoundTrips.{bytes_value, flat_octas, get_d_octas, halt_as, keeps_length, round_trips}
pub use Rattle.points.specs.Store.{a_at, b_at, numbers_at, room_length, store_length, Took}
unfoldable pub use Rattle.points.specs.Store.{filled, from_two, mask_in, number_at, numbers_of, room_of, store_with_point, take_reply}
pub use Rattle.points.proofs.Returns.{fits, Passed, passed, returns}
pub use Rattle.tasks.specs.Images.{image_in, Leaves, TasksRan}
unfoldable pub use Rattle.tasks.specs.Images.{each_length, images_fit, images_with, states_from, states_in}
pub use Rattle.mmix.specs.Entries.{ContextAt, FieldTold, lent_at, Raised, RaisedState, RanImage, RanState, SetImage, Stepped, SteppedState}
