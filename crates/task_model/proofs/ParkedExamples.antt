-- The examples of a parked context, carried through the definitions by a result that antt computes.
use Rattle.model.proofs.Prelude.{refl, start, context_at, context_count, context_rest, save_context, saved, saved_special, saved_state, saved_unspilled, unsave_context}
use Rattle.model.proofs.Prelude.{unsaved, unsaved_general, unsaved_special, unsaved_unspilled, target_of, indexed, over, tab, within, framed, hole, pushed}
use Rattle.model.proofs.Prelude.{pushed_rule, push_frame, slid, slide, step_on, bytes_in, operand_in, unit_at, both, has, inside, octa_at, octa_bytes, offset, put_octa}
use Rattle.model.proofs.Prelude.{ruled, ruled_one, shape_of, shapes_of, shares, write_octa, tell, bytes_of, octa, part, value_of, written, arm_of, look, looks}
use Rattle.model.proofs.Prelude.{map_plan, named, perform, puts, worst, admissible, claim_local, cleared, fresh, goes, halted, hideable, hides, put_globals}
use Rattle.model.proofs.Prelude.{put_locals, set_register, spilled, stored, with_special, run_for, run_of, claims, fetched_plan, from_three, guarded, instruction_plan}
use Rattle.model.proofs.Prelude.{item_plan, keeps_claim, mmix, plan_of, refusal_of, refusing, settled_by, taken_back, tetra_at, tetra_plan, unruled_by, put_refusal}
use Rattle.model.proofs.Prelude.{put_special, put_state, unless_hidden}
use Rattle.model.specs.examples.RunExamples.{stops, all_stop}
use Rattle.task_model.specs.Tasks.{owns, foreign, refusing_in, turn_judge, turn_plan, studies}
use Rattle.task_model.specs.Schedule.{count_by, refusal_by, any_runs, turn_of, turns_from, rounds, call_by}
use Rattle.task_model.specs.Call.{each_below, part_ruled, overlaps, part_clear, tasks_ruled, all_admissible, call_refusal, turn_run, call_of, tasks_of}
use Rattle.task_model.specs.examples.TaskExamples.{works, all_work}
use Rattle.task_model.specs.examples.ParkedExamples.{parked_examples, unparked_runs, ParkedExamplesMet}

pub parked_examples_met : ParkedExamplesMet
unfolding over indexed within tab octa part written value_of bytes_of hideable hides admissible fresh goes halted with_special cleared claim_local stored set_register put_locals put_globals spilled shape_of ruled_one offset has octa_bytes write_octa shapes_of inside octa_at put_octa both ruled shares map_plan worst named look looks puts perform arm_of tell target_of hole framed slid slide pushed_rule pushed push_frame saved_special saved saved_unspilled saved_state save_context unsaved_general unsaved_special unsaved_unspilled unsaved context_rest context_count context_at unsave_context put_refusal put_state unless_hidden put_special bytes_in unit_at operand_in step_on refusal_of unruled_by refusing plan_of guarded from_three claims tetra_at keeps_claim settled_by taken_back instruction_plan tetra_plan fetched_plan item_plan mmix run_for run_of start stops all_stop owns foreign refusing_in turn_judge turn_plan studies count_by refusal_by any_runs turn_of turns_from rounds call_by each_below part_ruled overlaps part_clear tasks_ruled all_admissible call_refusal turn_run call_of tasks_of works all_work parked_examples unparked_runs
parked_examples_met = (refl, refl)
