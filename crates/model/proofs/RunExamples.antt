-- The examples of runs and of hidden registers, carried through the definitions by a result that antt computes.
use Rattle.model.proofs.Logic.{refl, count_leading_zeros}
use Rattle.model.specs.Fill.{over, indexed, within, tab}
use Rattle.model.specs.Octa.{octa, part, written, value_of, bytes_of}
use Rattle.model.specs.Registers.{hideable, hides, admissible, fresh, goes, halted, with_special, cleared, claim_local, stored, set_register, put_locals, put_globals, spilled}
use Rattle.model.specs.Memory.{shape_of, ruled_one, offset, has, octa_bytes, write_octa, shapes_of, inside, octa_at, put_octa, both, ruled, shares}
use Rattle.model.specs.Plan.{worst, named, look, looks, puts, perform}
use Rattle.model.specs.Opcodes.{operation_of, first_of, width_of, sign_of, condition_of, arm_of}
use Rattle.model.specs.NoMemory.{tell}
use Rattle.model.specs.Control.{target_of, holds}
use Rattle.model.specs.Frames.{hole, framed, slid, slide, pushed_rule, pushed, push_frame, count_of, last_output, restored, unslide, popped, pop_to, pop_rule, no_frame, misplaced, pop_frame}
use Rattle.model.specs.Contexts.{save_context}
use Rattle.model.specs.System.{put_refusal, put_state, unless_hidden, put_special, got, get_special}
use Rattle.model.specs.Trips.{interrupted, trip_rule, trip_to, trap_of, leftmost, added, with_added, raised}
use Rattle.model.specs.LoadStore.{bytes_in, unit_at, operand_in, extended, load_from}
use Rattle.model.specs.Whole.{signed_of, octa_of, is_signed, floor_by, floor_quotient, floor_remainder}
use Rattle.model.specs.Arithmetic.{divided, results_of}
use Rattle.model.specs.ArithmeticStep.{with_results, arithmetic_says}
use Rattle.model.specs.Lists.{step_on, runs}
use Rattle.model.specs.Step.{refusal_of, unruled_by, refusing, plan_of, guarded, from_three, step_plan, claims, tetra_at, keeps_claim, settled_by, taken_back, instruction_plan, tetra_plan, fetched_plan, exception_of, item_plan, mmix}
use Rattle.model.specs.Run.{run_for, run_of}
use Rattle.model.specs.Bench.{start, shows, met, all_met}
use Rattle.model.specs.examples.RunExamples.{stops, all_stop, run_examples, unclaimed_examples, claim_ends, RunExamplesMet}
use Rattle.model.specs.examples.HiddenExamples.{masks_taken, hidden_examples, hidden_runs, HiddenExamplesMet}

computed : RunExamplesMet × HiddenExamplesMet
unfolding count_leading_zeros over indexed within tab octa part written value_of bytes_of hideable hides admissible fresh goes halted with_special cleared claim_local stored set_register put_locals put_globals spilled shape_of ruled_one offset has octa_bytes write_octa shapes_of inside octa_at put_octa both ruled shares worst named look looks puts perform operation_of first_of width_of sign_of condition_of arm_of tell target_of holds hole framed slid slide pushed_rule pushed push_frame count_of last_output restored unslide popped pop_to pop_rule no_frame misplaced pop_frame save_context got get_special interrupted trip_rule trip_to trap_of leftmost added with_added raised bytes_in unit_at operand_in extended load_from signed_of octa_of is_signed floor_by floor_quotient floor_remainder divided results_of with_results arithmetic_says step_on runs refusal_of unruled_by refusing plan_of guarded from_three step_plan claims tetra_at keeps_claim settled_by taken_back instruction_plan tetra_plan fetched_plan item_plan mmix run_for run_of start shows met all_met stops all_stop run_examples unclaimed_examples claim_ends put_refusal put_state unless_hidden put_special exception_of masks_taken hidden_examples hidden_runs
computed = ((refl, refl, refl), (refl, refl, refl))

pub run_examples_met : RunExamplesMet
run_examples_met = computed.0

pub hidden_examples_met : HiddenExamplesMet
hidden_examples_met = computed.1
