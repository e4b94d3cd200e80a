-- The examples of several tasks, carried through the definitions by a result that antt computes.
use Rattle.model.proofs.Prelude.{refl, start, target_of, indexed, over, tab, within, framed, hole, pushed, pushed_rule, push_frame, slid, slide, step_on, bytes_in}
use Rattle.model.proofs.Prelude.{operand_in, unit_at, both, has, inside, octa_at, octa_bytes, offset, put_octa, ruled, ruled_one, shape_of, shapes_of, shares}
use Rattle.model.proofs.Prelude.{write_octa, tell, bytes_of, octa, part, value_of, written, arm_of, look, looks, map_plan, named, perform, puts, worst, admissible}
use Rattle.model.proofs.Prelude.{claim_local, cleared, fresh, goes, halted, hideable, hides, set_register, spilled, stored, with_special, run_for, claims}
use Rattle.model.proofs.Prelude.{fetched_plan, from_three, guarded, instruction_plan, item_plan, keeps_claim, plan_of, refusal_of, refusing, settled_by, taken_back}
use Rattle.model.proofs.Prelude.{tetra_at, tetra_plan, unruled_by}
use Rattle.task_model.specs.Tasks.{owns, foreign, refusing_in, turn_judge, turn_plan, studies}
use Rattle.task_model.specs.Schedule.{count_by, refusal_by, any_runs, turn_of, turns_from, rounds, call_by}
use Rattle.task_model.specs.Call.{each_below, part_ruled, overlaps, part_clear, tasks_ruled, all_admissible, call_refusal, turn_run, call_of, tasks_of}
use Rattle.task_model.specs.examples.TaskExamples.{works, all_work, task_examples, TaskExamplesMet}

pub task_examples_met : TaskExamplesMet
unfolding over indexed within tab octa part written value_of bytes_of hideable hides admissible fresh goes halted with_special cleared claim_local stored set_register spilled shape_of ruled_one offset has octa_bytes write_octa shapes_of inside octa_at put_octa both ruled shares map_plan worst named look looks puts perform arm_of tell target_of hole framed slid slide pushed_rule pushed push_frame bytes_in unit_at operand_in step_on refusal_of unruled_by refusing plan_of guarded from_three claims tetra_at keeps_claim settled_by taken_back instruction_plan tetra_plan fetched_plan item_plan run_for start owns foreign refusing_in turn_judge turn_plan studies count_by refusal_by any_runs turn_of turns_from rounds call_by each_below part_ruled overlaps part_clear tasks_ruled all_admissible call_refusal turn_run call_of tasks_of works all_work task_examples
task_examples_met = refl
