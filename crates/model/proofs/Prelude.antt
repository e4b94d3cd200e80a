-- What the proofs of the crates above share: the logic library's names, then the specs and the laws of model.
-- The proofs of model itself take the first from Logic, and specs and laws from where they are.
pub use Rattle.model.proofs.Logic.{max, min, suc, zero, ℕ, ◌%◌, ◌*◌, ◌+◌, ◌-◌, ◌/◌, ◌<◌, ◌^◌, ◌≤◌, Bool, bool_beq, cond, false, not, true, true≢false}
pub use Rattle.model.proofs.Logic.{◌&&◌, ◌||◌, append_assoc, append-nil, head-eq_of_cons-eq, List, map, tail-eq_of_cons-eq, [], ◌++◌, ◌∷◌, inl, inr, ◌≢◌}
pub use Rattle.model.proofs.Logic.{◌⊎◌, ⊎_elim, ap, ap₂, refl, subst, sym, ◌∙◌, ◌≡◌, dec_le, dec_lt, ℕ_discrete, add-suc, add-zero, div-add-mod'}
pub use Rattle.model.proofs.Logic.{div-div-eq-div-mul, div-eq_of_lt, div-eq_of_lt-le, div-le_self, div-lt_iff_lt-mul, div-one, eq-or-lt_of_le}
pub use Rattle.model.proofs.Logic.{eq-zero-or-pos, le-div_iff_mul-le, le_of_lt, lt_of_mul-lt-mul_right, lt_of_not-le, mod-eq_of_lt, mod-lt, mul_assoc}
pub use Rattle.model.proofs.Logic.{mul_comm, mul-div_cancel, mul-div-mul_right, mul-le-mul, mul-le-mul_right, mul-mod_left, pow-le-pow_right, pow-suc}
pub use Rattle.model.proofs.Logic.{pow-succ', suc-add, zero-add, zero-div, zero-mod, add-one, sub-one, arith, digits_div, digits_lt, digits_mod}
pub use Rattle.model.proofs.Logic.{and_le_l, and_mask, bit_and, bit_or, leading_le, leading_length, leading_top, count_leading_zeros, trailing_le, count_trailing_zeros}
pub use Rattle.model.proofs.Logic.{eqb, leb, ltb, nat_abs, negsuc, neg_ℤ, pos, sub_ℕ, ℤ, ◌*ℤ◌, ◌+ℤ◌, ◌-ℤ◌, drop, drop_of_length-le, get_or, get_or-replicate}
pub use Rattle.model.proofs.Logic.{length-append, length-drop, length-map, length-replicate, length-set, length-take, get_or_append}
pub use Rattle.model.proofs.Logic.{get_or_eq_default, replicate, replicate-append-replicate, set, take, take-append-drop, pow-add, pow_mono, pow_pos}
pub use Rattle.model.proofs.Logic.{shl_lt, shr-shr, split, append_snoc, drop-append-le, drop_at, drop-cons, drop-drop, ext_get_or, get_or-append-add}
pub use Rattle.model.proofs.Logic.{get_or-drop, get_or-set_other, get_or-set_same, get_or-take, length-take-le, set-append_left, set-get_or, set_out, set-set}
pub use Rattle.model.proofs.Logic.{split_at, take_all, take-append-le, take_at, take-suc, take-suc-set, take-take, lt_z, mag, non_neg, eq-eqb}
pub use Rattle.model.proofs.Logic.{eqb-false, eqb-true, le-leb, le-ltb, leb-false, leb-true, lt-leb, lt-ltb, ltb-false, ltb-true, ne_eqb, not-false}
pub use Rattle.model.proofs.Logic.{not-true, tag_of, w64, has_key, Among}
unfoldable pub use Rattle.model.proofs.Logic.{length}
pub use Rattle.model.specs.Arithmetic.{exact, flag_d, overflow_of, parted, plain}
unfoldable pub use Rattle.model.specs.Arithmetic.{divided, divided_wide, results_of}
pub use Rattle.model.specs.ArithmeticStep.{results_in}
unfoldable pub use Rattle.model.specs.ArithmeticStep.{arithmetic_says, with_results}
unfoldable pub use Rattle.model.specs.Bench.{start}
pub use Rattle.model.specs.Contexts.{context_address, extent}
unfoldable pub use Rattle.model.specs.Contexts.{context_at, context_count, context_rest, save_context, saved, saved_special, saved_state, saved_unspilled}
unfoldable pub use Rattle.model.specs.Contexts.{unsave_context, unsaved, unsaved_general, unsaved_special, unsaved_unspilled}
pub use Rattle.model.specs.Control.{is_negative, near, operand_of, sum_of, yz_of}
unfoldable pub use Rattle.model.specs.Control.{holds, target_of}
pub use Rattle.model.specs.Demand.{after, after_needs, Alike, AtPop, Call, GivesBack, opcode_of, pop_after, PopMet, Private, PUSHJ, SameOutside, Within, x_at}
pub use Rattle.model.specs.Few.{joined, of_stack, puts_bound, SameTouched}
unfoldable pub use Rattle.model.specs.Few.{touches_few}
pub use Rattle.model.specs.Field.{distance}
unfoldable pub use Rattle.model.specs.Field.{answer_of, field_at, field_of}
unfoldable pub use Rattle.model.specs.Fill.{indexed, over, tab, within}
unfoldable pub use Rattle.model.specs.Frames.{count_of, framed, hole, last_output, misplaced, no_frame, pop_frame, popped, pop_rule, pop_to, pushed, pushed_rule}
unfoldable pub use Rattle.model.specs.Frames.{push_frame, restored, slid, slide, unslide}
pub use Rattle.model.specs.Invariants.{Bytes, InstructionFits}
unfoldable pub use Rattle.model.specs.Invariants.{Fits}
pub use Rattle.model.specs.Kept.{at_length, full, image_length, octas_in, OfBytes, old_image_length, Point, point_count, PointFits, point_in}
pub use Rattle.model.specs.Leaves.{ArithmeticLeaves, ExceptionLeaves, FieldLeaves, Interrupted, LastLeaves, ReaderLeaves, RunLeaves, StepLeaves}
pub use Rattle.model.specs.Leaves.{StoreLeaves, TetraLeaves, Trapped, TripLeaves}
pub use Rattle.model.specs.Lists.{Machine, Ran, run_needs}
unfoldable pub use Rattle.model.specs.Lists.{needs_of, run_needs_by, runs, step_on}
pub use Rattle.model.specs.LoadStore.{flag_v, place_of, values_of}
unfoldable pub use Rattle.model.specs.LoadStore.{bytes_in, extended, fits, load_from, merged, operand_in, store_says, store_to, unit_at}
pub use Rattle.model.specs.Memory.{Shape, Shapes, Store, Window, window_max, Windows}
unfoldable pub use Rattle.model.specs.Memory.{both, has, holder, inside, octa_at, octa_bytes, offset, one, put_octa, ruled, ruled_one, shape_of, shapes_of}
unfoldable pub use Rattle.model.specs.Memory.{shares, write_octa}
pub use Rattle.model.specs.NoMemory.{Said, say}
unfoldable pub use Rattle.model.specs.NoMemory.{tell}
pub use Rattle.model.specs.Numbers.{Early, Halting, Lost}
unfoldable pub use Rattle.model.specs.Numbers.{number_of, reply_of}
unfoldable pub use Rattle.model.specs.Octa.{bytes_of, octa, part, value_of, written}
pub use Rattle.model.specs.Opcodes.{among, arithmetic, Arm, backward, branch, byte, control, Direction, direction_of, first_arithmetic, first_branch}
pub use Rattle.model.specs.Opcodes.{first_load, first_negation, first_store, forward, get, get_address, go, immediate, jump, last_arithmetic, last_branch}
pub use Rattle.model.specs.Opcodes.{last_load, last_negation, last_of, last_store, load, memory, none, octabyte, operations, op_get, op_geta, op_getab, op_go}
pub use Rattle.model.specs.Opcodes.{op_goi, op_jmp, op_jmpb, op_pop, op_pushgo, op_pushgoi, op_pushj, op_pushjb, op_put, op_puti, op_save, op_swym, op_sync, op_trap}
pub use Rattle.model.specs.Opcodes.{op_trip, op_unsave, pop, push_go, push_jump, put, register, save, signed, stack, store, swym, sync, system, tetra, trap}
pub use Rattle.model.specs.Opcodes.{trip, unsave, unsigned, Width, wyde}
unfoldable pub use Rattle.model.specs.Opcodes.{arm_of, condition_of, first_of, operation_of, sign_of, width_of}
pub use Rattle.model.specs.Order.{Passes, refused_by}
pub use Rattle.model.specs.Parts.{lent, made}
pub use Rattle.model.specs.Lent.{state_lent, windows_lent, windows_read}
pub use Rattle.model.specs.Plan.{Agree, answer, clear, Off, Outcome, Plan, read}
unfoldable pub use Rattle.model.specs.Plan.{All, look, looks, map_outcome, map_plan, missing, named, perform, puts, ups, worst}
pub use Rattle.model.specs.Reader.{across, checked, empty_part, nowhere, octabytes, Part, part_bytes, read_context, Span, window_of}
unfoldable pub use Rattle.model.specs.Reader.{handed, part_at, span_of}
pub use Rattle.model.specs.Registers.{following, is_marginal, MarginalZero, masked, next, r_a, r_b, r_bb, reg, r_g, r_h, r_j, r_l, r_o, r_p, r_r, r_s, r_w, r_ww, r_x}
pub use Rattle.model.specs.Registers.{r_xx, r_y, r_yy, r_z, r_zz, Sized, sp, stack_start, with_parts, Words}
unfoldable pub use Rattle.model.specs.Registers.{admissible, claim_local, cleared, fresh, goes, halted, hideable, hides, put_globals, put_locals}
unfoldable pub use Rattle.model.specs.Registers.{set_register, spilled, stored, with_special}
pub use Rattle.model.specs.Row.{needs_in, plan_in, Quiet, quiet, refusal_in, refusal_number, Row, Touching, touching}
pub use Rattle.model.specs.Rows.{row_of}
pub use Rattle.model.specs.Run.{grant_most, more, refused_whole, Stopped, stopped_by, tried}
unfoldable pub use Rattle.model.specs.Run.{run_for, run_of}
pub use Rattle.model.specs.RunMeant.{CallPasses, Listed}
pub use Rattle.model.specs.Step.{claimed_at, exception, fetched, is_named, Item, opcode_in, step, tetra_of, x_in, y_in, z_in}
unfoldable pub use Rattle.model.specs.Step.{claimed_by, claims, exception_of, fetched_needs, fetched_of, fetched_plan, from_three, guarded, instruction_plan}
unfoldable pub use Rattle.model.specs.Step.{item_plan, judged, keeps_claim, mmix, plan_of, refusal_of, refusing, settled_by, step_of, step_plan, taken_back}
unfoldable pub use Rattle.model.specs.Step.{tetra_at, tetra_plan, unruled_by}
pub use Rattle.model.specs.StepNeeds.{hole_below, run}
unfoldable pub use Rattle.model.specs.StepNeeds.{arm_needs, pop_needs, tetra_needs, unsave_needs, unsave_needs_count, unsave_needs_rest}
pub use Rattle.model.specs.System.{is_illegal, is_privileged}
unfoldable pub use Rattle.model.specs.System.{get_special, got, put_refusal, put_special, put_state, sync_of, unless_hidden}
pub use Rattle.model.specs.Trips.{enables, is_loaded, trapped, tripped, word_of}
unfoldable pub use Rattle.model.specs.Trips.{added, interrupted, leftmost, raised, trap_of, trip_rule, trip_to, with_added}
pub use Rattle.model.specs.Unseen.{SameSeen}
pub use Rattle.model.specs.Ways.{by_fetch, by_step, done_by, item_by, LentBy, MetBy, NamesBy, Way, x_by, y_by, z_by}
pub use Rattle.model.specs.Whole.{floor_remainder, power_of, signed_of, wide_of}
unfoldable pub use Rattle.model.specs.Whole.{compared, floor_by, floor_quotient, is_signed, octa_of, product_high, product_low}
pub use Rattle.model.proofs.AdmissibleKept.{Adm, adm, adm_of, claim_good, goes_good, Good, saved_good, spec_other, spec_same}
pub use Rattle.model.proofs.Agrees.{agree_of, shapes_outside}
pub use Rattle.model.proofs.Apart.{Ruled, ruled_a, ruled_b, windows_apart}
pub use Rattle.model.proofs.ArmAnswers.{context_meets, put_bound, put_global, put_most, put_status, Range}
unfoldable pub use Rattle.model.proofs.ArmAnswers.{Answers}
pub use Rattle.model.proofs.ArmReplies.{plan_replies, three_replies}
pub use Rattle.model.proofs.Bools.{and_left, and_right, at_each, denied, eqb_swap, granted, on, on_both, or_left, or_right}
unfoldable pub use Rattle.model.proofs.Bools.{each}
pub use Rattle.model.proofs.Bytes.{byte_at, eight, get_d_part, grow, over_written, small, value_below, value_halves, value_more, value_none}
pub use Rattle.model.proofs.Bytes.{written_append}
pub use Rattle.model.proofs.Computed.{at_pop_law, below_at, off_run_law, ranged}
unfoldable pub use Rattle.model.proofs.Computed.{below, off_run, poppable, ranged_state}
pub use Rattle.model.proofs.Demand.{admissible_alike, call_open, call_passed, demand3, hole_alike, hole_le, mmix_caller, step_private, target_of_call}
pub use Rattle.model.proofs.DemandCore.{after_in, back_core, called_by, Caller, Calls, narrow, Paired, Passed, PrivateIn, reply_of', touched_by}
pub use Rattle.model.proofs.DemandFetched.{claim_global, claim_hole, claim_other, fetched_calls, fetched_passed, fetched_private, tetra_alike, WasCalled}
pub use Rattle.model.proofs.Entry.{byte_has, bytes_agree, guarded_leaves, guarded_open, Inside, inside_judged, judged_inside, mmix_sound, none_unruled}
pub use Rattle.model.proofs.Entry.{offset_byte, perform_on, said, said_by_law, step_done, step_open, unruled_is, unruled_none, unruled_shared, unruled_two}
pub use Rattle.model.proofs.Fetched.{claim_admissible, fetched_claims, fetched_free, fetched_inadmissible, fetched_missing, fetched_there}
pub use Rattle.model.proofs.Fetched.{fetched_unruled, instruction_claims, instruction_free, passing, step_three}
pub use Rattle.model.proofs.Fill.{flag, length_over, lt_or_le, over_above, over_after, over_before, over_below, over_end, over_in, over_more, over_none}
pub use Rattle.model.proofs.Fill.{within_above, within_below, within_yes}
pub use Rattle.model.proofs.Instance.{caller, callers_alike, hiding, same_seen}
pub use Rattle.model.proofs.Invariants.{good_keeps, items_keep}
pub use Rattle.model.proofs.ItemInvariant.{Any, item_keeps, Keeps}
pub use Rattle.model.proofs.Kept.{at_own, full_bytes}
pub use Rattle.model.proofs.Lists.{by_reading, runs_agree, runs_always, runs_append, runs_kept, run_touches, run_touches_agree, run_touches_off, SameRun}
pub use Rattle.model.proofs.Lists.{step_agree, step_kept}
unfoldable pub use Rattle.model.proofs.Lists.{touches_of}
pub use Rattle.model.proofs.LoadStore.{merged_small, operand_least, operand_small, values_positive}
pub use Rattle.model.proofs.Memory.{both_lawful, has_octa, holder_octa, inside_octa, Lawful, one_lawful}
pub use Rattle.model.proofs.Missed.{Missed, missed}
pub use Rattle.model.proofs.Numbers.{done_zero, holder_a, holder_b, holder_none, is_done, is_refused, no_holder, not_done, number_zero, numbered, refusals, refused_not_zero, reply_by, some_holder, tag_is, told_done}
pub use Rattle.model.proofs.Numbers.{told_refused, unhalting, zero_done}
pub use Rattle.model.proofs.Octa.{length_written, part_cong, part_written, value_bytes, written_above, written_below, written_nil}
pub use Rattle.model.proofs.Plan.{All_both, All_left, All_map, All_of, All_right, All_zip, Always, Always_map, Always_mapped, Always_of, Kept, needs_map}
pub use Rattle.model.proofs.Plan.{perform_always, perform_map, perform_shape, puts_more, puts_shape, Same, Sound, touches, touches_judged, touches_off}
pub use Rattle.model.proofs.Plan.{worst_head, worst_tail}
pub use Rattle.model.proofs.PushPop.{called, push_from, push_is}
pub use Rattle.model.proofs.Reader.{offset_next, reader_open, reader_unruled, window_ruled}
pub use Rattle.model.proofs.RepliesLeft.{replies_leave}
pub use Rattle.model.proofs.RunLaws.{IsList, map_stopped, run_by, run_done, run_listed, run_map, run_most, run_none, run_refused, run_spent}
pub use Rattle.model.proofs.RunMeant.{call_by, fetched_on, fetched_ready, fetched_shapes, Ready, run_is_meant, run_open, run_ready, run_unruled}
pub use Rattle.model.proofs.RunMeant.{runs_in_order}
pub use Rattle.model.proofs.Runs.{get_d_looks, get_d_tab, length_tab, look_mod, octa_mod, of_worst, perform_read, worst_of}
pub use Rattle.model.proofs.SaveUnsave.{Context, context_found, further, looked, octas_of, refusing_mod, save_fits, save_stores, saved_count}
pub use Rattle.model.proofs.SaveUnsave.{saved_global, saved_local, saved_packed, saved_twelve, saved_on, saved_special_high, saved_special_low}
pub use Rattle.model.proofs.SaveUnsave.{saved_state_address, Saves, shape_same, unsave_found, unsaved_next, Unsaves, with_context, Wraps}
pub use Rattle.model.proofs.SeenArms.{by_test}
pub use Rattle.model.proofs.SeenStates.{admissible_same, of_seen, Seen, seen_of}
pub use Rattle.model.proofs.Slices.{in_all, in_none, in_turn, length_part, out_all, out_none, out_turn, part_all, part_apart, part_inside, part_lent}
pub use Rattle.model.proofs.Slices.{part_padded, part_within, written_again, written_inside, written_lent}
pub use Rattle.model.proofs.Split.{needs_append, splits}
pub use Rattle.model.proofs.StepAnswers.{exception_meets, perform_meets, step_meets, worst_six}
pub use Rattle.model.proofs.StepByArm.{pop_sent, push_sent, save_sent, step_inadmissible, step_refused, step_told, told, unsave_sent}
unfoldable pub use Rattle.model.proofs.StepByArm.{back_to, sent}
pub use Rattle.model.proofs.Ways.{done_is, item_opened, item_opens, Opened, plan_by}
pub use Rattle.model.proofs.Whole.{by_order, by_sign, far, floor_above, floor_below, floor_negatives, floor_same, floor_zero, leb_not_ltb, ltb_not_leb}
pub use Rattle.model.proofs.Whole.{magnitude_high, magnitude_low, negative_high, negative_low, octa_low, octa_minus, octa_neg, octa_pos, octa_times}
pub use Rattle.model.proofs.Whole.{pos_minus_pos, power_far, power_near, product_parts, signed_high, signed_low, signed_neg, signed_parts, signed_pos}
pub use Rattle.model.proofs.Whole.{with_sign}
pub use Rattle.model.proofs.WordsKept.{claim_words, globals_words, halted_words, locals_words, special_words}
