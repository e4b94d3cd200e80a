-- Theorems 6, 10, 11, 12 and 14 and those of arithmetic and of two windows: 01's points and more examples, those of loads and stores, fields, operations and windows,
-- and the examples of the departures, carried through the definitions by one result that antt computes.
use Rattle.model.proofs.Logic.{refl, count_leading_zeros}
use Rattle.model.specs.Fill.{over, indexed, within, tab}
use Rattle.model.specs.Octa.{octa, part, written, value_of, bytes_of}
use Rattle.model.specs.Registers.{hideable, hides, admissible, fresh, goes, halted, with_special, fresh_at, cleared, claim_local, stored, set_register, put_locals, put_globals, spilled}
use Rattle.model.specs.Memory.{shape_of, ruled_one, offset, has, octa_bytes, write_octa, shapes_of, holder, inside, octa_at, put_octa, both, ruled, shares}
use Rattle.model.specs.Plan.{worst, named, look, looks, puts, perform, map_plan}
use Rattle.model.specs.Opcodes.{operation_of, first_of, width_of, sign_of, condition_of, arm_of}
use Rattle.model.specs.NoMemory.{tell}
use Rattle.model.specs.Control.{target_of, holds}
use Rattle.model.specs.Frames.{hole, framed, slid, slide, pushed_rule, pushed, push_frame, count_of, last_output, restored, unslide, popped, pop_to, pop_rule, framed_rule, no_frame, misplaced, pop_frame}
use Rattle.model.specs.Contexts.{saved_special, saved, saved_unspilled, saved_state, save_context, unsaved_general, unsaved_special, unsaved_unspilled, unsaved, context_rest, context_count, context_at, unsave_context}
use Rattle.model.specs.System.{put_refusal, put_state, unless_hidden, put_special, got, get_special, got_rule, sync_of}
use Rattle.model.specs.Trips.{interrupted, trip_rule, trip_to, trap_rule, trap_of, leftmost, added, exact_underflow, added_rule, with_added, raised}
use Rattle.model.specs.LoadStore.{bytes_in, unit_at, operand_in, merged, extended, fits, load_from, store_says, store_to}
use Rattle.model.specs.Whole.{signed_of, octa_of, is_signed, product_high, product_low, floor_by, floor_quotient, floor_remainder, compared, power_of}
use Rattle.model.specs.Arithmetic.{divided, divided_wide, results_of}
use Rattle.model.specs.Reader.{span_of, held_by, across, part_at, handed, read_context}
use Rattle.model.specs.Lists.{step_on, runs}
use Rattle.model.specs.Step.{refusal_of, unruled_by, judged, refusing, plan_of, guarded, from_three, step_plan, step_of, exception_of, item_plan, mmix}
use Rattle.model.specs.Numbers.{number_of}
use Rattle.model.specs.Field.{field_at, field_of, answer_of}
use Rattle.model.specs.Rules.{read_rule, push_rule, below_top, popped_rule, pop_hole_rule, pop_any_rule, unsaved_general_rule, unsaved_special_rule, unsaved_rule, unsave_rest_rule, unsave_count_rule, unsave_rule, load_rule, store_state, store_rule, with_added_rule, raised_rule, exception_rule, counted, arithmetic_rule}
use Rattle.model.specs.StepRule.{rule_of, step_rule}
use Rattle.model.specs.Bench.{start, shows, met, all_met, points, PointsMet}
use Rattle.model.specs.examples.ReaderExamples.{reader_examples}
use Rattle.model.specs.examples.StepExamples.{ruled_shapes, numbered, fresh_is, fresh_at_is, more_examples, MoreExamplesMet}
use Rattle.model.specs.examples.LoadStoreExamples.{load_store_examples, LoadStoreExamplesMet}
use Rattle.model.specs.examples.WindowExamples.{window_reads, window_examples, WindowExamplesMet}
use Rattle.model.specs.examples.FieldExamples.{field_examples, all_found, FieldExamplesMet}
use Rattle.model.specs.examples.ExceptionExamples.{shown_exception, all_shown_exceptions, exception_examples}
use Rattle.model.specs.examples.DepartureExamples.{shown, all_shown, examples, cut_examples, count_example, ExamplesShown}
use Rattle.model.specs.ArithmeticStep.{with_results, arithmetic_says}
use Rattle.model.specs.examples.ArithmeticStepExamples.{arithmetic_step_examples, ArithmeticStepExamplesMet}
use Rattle.model.specs.examples.ArithmeticExamples.{all_same, arithmetic_examples, ArithmeticExamplesMet}

computed : PointsMet × MoreExamplesMet × ExamplesShown × LoadStoreExamplesMet × FieldExamplesMet × ArithmeticExamplesMet × ArithmeticStepExamplesMet × WindowExamplesMet
unfolding count_leading_zeros over indexed within tab octa part written value_of bytes_of hideable hides admissible fresh goes halted with_special fresh_at cleared claim_local stored set_register put_locals put_globals spilled shape_of ruled_one offset has octa_bytes write_octa shapes_of holder inside octa_at put_octa both ruled shares worst named look looks puts perform condition_of arm_of tell target_of holds hole framed slid slide pushed_rule pushed push_frame count_of last_output restored unslide popped pop_to pop_rule no_frame misplaced pop_frame saved_special saved saved_unspilled saved_state save_context unsaved_general unsaved_special unsaved_unspilled unsaved context_rest context_count context_at unsave_context put_refusal put_state unless_hidden put_special got get_special sync_of interrupted trip_rule trip_to trap_of added with_added raised step_on runs refusal_of unruled_by judged refusing plan_of guarded from_three step_plan exception_of item_plan mmix start shows met all_met points framed_rule got_rule trap_rule leftmost exact_underflow added_rule map_plan step_of read_rule push_rule below_top popped_rule pop_hole_rule pop_any_rule unsaved_general_rule unsaved_special_rule unsaved_rule unsave_rest_rule unsave_count_rule unsave_rule rule_of step_rule with_added_rule raised_rule exception_rule ruled_shapes numbered fresh_is fresh_at_is reader_examples span_of held_by across part_at handed read_context more_examples shown all_shown shown_exception all_shown_exceptions examples exception_examples cut_examples count_example counted width_of sign_of bytes_in unit_at operand_in merged extended fits load_from store_says store_to load_rule store_state store_rule load_store_examples number_of field_at field_of answer_of field_examples all_found signed_of octa_of is_signed product_high product_low floor_by floor_quotient floor_remainder compared power_of divided divided_wide results_of all_same arithmetic_examples operation_of first_of with_results arithmetic_says arithmetic_rule arithmetic_step_examples window_reads window_examples
computed = (refl, (refl, refl, refl, refl, refl, refl), (refl, refl, refl, refl), refl, refl, refl, refl, (refl, refl))

pub points_met : PointsMet
points_met = computed.0

pub more_examples_met : MoreExamplesMet
more_examples_met = computed.1

pub examples_shown : ExamplesShown
examples_shown = computed.2

pub load_store_examples_met : LoadStoreExamplesMet
load_store_examples_met = computed.3

pub field_examples_met : FieldExamplesMet
field_examples_met = computed.4

pub arithmetic_examples_met : ArithmeticExamplesMet
arithmetic_examples_met = computed.5

pub arithmetic_step_examples_met : ArithmeticStepExamplesMet
arithmetic_step_examples_met = computed.6

pub window_examples_met : WindowExamplesMet
window_examples_met = computed.7
