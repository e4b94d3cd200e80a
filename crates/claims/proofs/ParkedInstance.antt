-- Instances of a parked context of the C functions, all hypotheses computed: the tasks and windows of task_model's ParkedInstance, as structs. SAVE and UNSAVE each by
-- mmix_run_parts of one instruction, in between runs of both tasks; and all in one run.
use Rattle.model.proofs.Prelude.{suc, zero, true, List, [], ◌∷◌, inl, refl, ◌≡◌, arith, ltb, ltb-true, start, context_at, context_count, context_rest, extent}
use Rattle.model.proofs.Prelude.{save_context, saved, saved_special, saved_state, saved_unspilled, unsave_context, unsaved, unsaved_general, unsaved_special}
use Rattle.model.proofs.Prelude.{unsaved_unspilled, target_of, indexed, over, tab, within, framed, hole, pushed, pushed_rule, push_frame, slid, slide, Bytes, Fits}
use Rattle.model.proofs.Prelude.{needs_of, run_needs_by, runs, step_on, bytes_in, operand_in, unit_at, both, has, inside, octa_at, octa_bytes, offset, put_octa, ruled}
use Rattle.model.proofs.Prelude.{ruled_one, shape_of, shapes_of, shares, Windows, write_octa, tell, bytes_of, octa, part, value_of, written, arm_of, look, looks}
use Rattle.model.proofs.Prelude.{map_plan, missing, named, perform, puts, ups, worst, admissible, claim_local, cleared, fresh, goes, halted, hideable, hides}
use Rattle.model.proofs.Prelude.{put_globals, put_locals, reg, r_o, set_register, sp, spilled, stored, with_special, run_for, run_of, Stopped, claims, fetched}
use Rattle.model.proofs.Prelude.{fetched_plan, from_three, guarded, instruction_plan, item_plan, keeps_claim, mmix, opcode_in, plan_of, refusal_of, refusing, settled_by}
use Rattle.model.proofs.Prelude.{step_plan, taken_back, tetra_at, tetra_of, tetra_plan, unruled_by, put_refusal, put_special, put_state, unless_hidden, by_fetch, x_by}
use Rattle.model.proofs.Prelude.{z_by, each, below, below_at, off_run_law, off_run, ranged, ranged_state}
use Rattle.claims.proofs.Prelude.{needs, State, at_unsave, Park, saved_at, saver_x, turns_parked, foreign, Own, owns, refusing_in, studies, task_of, turn}
use Rattle.claims.proofs.Prelude.{turn_judge, turn_needs, turn_plan, without32}
use Rattle.task_model.proofs.ParkedInstance.{lent, tasks}
use Rattle.claims.specs.OneCall.{Held, struct, held_state, HeldFits, run_parts, Made, tried_items, asked_by, asked}
use Rattle.claims.proofs.Demand3Instance.{ran, ran_meets}
use Rattle.claims.specs.TaskCalls.{states_held, TaskMade, TaskMeetsBy, turns_of, turns_by, FitsBy, TaskChain, task_last_held, task_last_window, AllFitIn, all_turns, calls_need}
use Rattle.claims.specs.AnywhereCalls.{AllHeldFit}
use Rattle.claims.specs.ParkedCalls.{Unparked}
use Rattle.claims.specs.ParkedAnywhereCalls.{UnparkedHeld}
use Rattle.claims.proofs.BegunCalls.{tried_fit}
use Rattle.claims.proofs.ParkedCalls.{parked_calls}
use Rattle.claims.proofs.ParkedAnywhereCalls.{parked_anywhere_calls}
use Rattle.claims.proofs.ListsInstance.{as_task}

abbrev saver : State
saver = task_of tasks 0

abbrev other : State
other = task_of tasks 1

-- ---- a call each: SAVE, SWYM by the same task, PUSHJ and SWYM by the other, UNSAVE

abbrev first_run : Stopped State Windows
first_run = run_of lent saver 1

abbrev second_run : Stopped State Windows
second_run = run_of first_run.memory first_run.state 1

abbrev third_run : Stopped State Windows
third_run = run_of second_run.memory other 2

abbrev hold : State → State → List Held
hold s t = struct s ∷ struct t ∷ []

abbrev saves : TaskMade
saves = as_task (hold saver other) 0 (ran 1 lent saver)

abbrev list : List TaskMade
list = as_task (hold first_run.state other) 0 (ran 1 first_run.memory first_run.state) ∷ as_task (hold second_run.state other) 1 (ran 2 second_run.memory other) ∷ []

abbrev unsaves : Made
unsaves = ran 1 third_run.memory second_run.state

-- ---- one run of all three

abbrev whole : Own
whole = record { start = 0; size = 88 }

abbrev park : Park
park = record { before = []; task = 0; part = whole; how = by_fetch; list = turn 0 whole fetched ∷ []; back_part = whole; back_how = by_fetch; rest = [] }

abbrev run : List TaskMade
run = as_task (hold saver other) 0 (ran 3 lent saver) ∷ []

computed : ((below 256 lent.a.bytes ≡ true) × (below 256 lent.b.bytes ≡ true) × (ranged_state saver ≡ true) × (ranged_state other ≡ true)
    × (opcode_in (tetra_of lent saver) ≡ 0xFA))
    × ((asked_by (run_parts 1) saves.reply saves.count ≡ fetched ∷ []) × (saves.reply ≡ 0)
    × (off_run (sp saver r_o) (extent saver) (calls_need saves.held saves.window list) ≡ true)
    × (asked unsaves ≡ fetched ∷ []) × (opcode_in (tetra_of third_run.memory second_run.state) ≡ 0xFB) × (refusing (shapes_of third_run.memory) second_run.state.pc ≡ 0)
    × (reg second_run.state (z_by by_fetch third_run.memory second_run.state) ≡ reg first_run.state (x_by by_fetch lent saver)))
    × ((all_turns (hold saver other) lent run ≡ turns_parked park) × (ltb (saver_x park tasks lent) 256 ≡ true) × ((saved_at park tasks lent).reply ≡ 0)
    × (off_run (sp saver r_o) (extent saver) (run_needs_by both studies turn_needs (saved_at park tasks lent).state (saved_at park tasks lent).memory park.list) ≡ true)
    × (opcode_in (tetra_of (at_unsave park tasks lent).memory (task_of (at_unsave park tasks lent).state 0)) ≡ 0xFB)
    × (refusing_in whole (shapes_of (at_unsave park tasks lent).memory) (task_of (at_unsave park tasks lent).state 0).pc ≡ 0)
    × (reg (task_of (at_unsave park tasks lent).state 0) (z_by by_fetch (at_unsave park tasks lent).memory (task_of (at_unsave park tasks lent).state 0))
    ≡ reg (task_of (saved_at park tasks lent).state 0) (saver_x park tasks lent)))
unfolding over indexed within tab octa part written value_of bytes_of hideable hides admissible fresh goes halted with_special cleared claim_local stored set_register put_locals put_globals spilled shape_of ruled_one offset has octa_bytes write_octa shapes_of inside octa_at put_octa both ruled shares map_plan worst named look looks puts perform ups missing needs arm_of tell target_of hole framed slid slide pushed_rule pushed push_frame saved_special saved saved_unspilled saved_state save_context unsaved_general unsaved_special unsaved_unspilled unsaved context_rest context_count context_at unsave_context put_refusal put_state unless_hidden put_special bytes_in unit_at operand_in step_on needs_of runs run_needs_by refusal_of unruled_by refusing plan_of guarded from_three step_plan claims tetra_at keeps_claim settled_by taken_back instruction_plan tetra_plan fetched_plan item_plan start owns foreign refusing_in turn_judge turn_plan studies without32 turn_needs each below ranged_state off_run mmix run_for run_of tried_items asked_by held_state states_held turns_of turns_by all_turns calls_need
computed = ((refl, refl, refl, refl, refl), (refl, refl, refl, refl, refl, refl, refl), (refl, refl, refl, refl, refl, refl, refl))

bytes : Bytes lent
bytes = record { byte_a = λ i. below_at 256 lent.a.bytes i (omega arith) computed.0.0; byte_b = λ i. below_at 256 lent.b.bytes i (omega arith) computed.0.1 }

fit : AllHeldFit (hold saver other)
unfolding HeldFits
fit zero l = ranged saver computed.0.2
fit (suc zero) l = ranged other computed.0.3
fit (suc (suc k)) l = absurd (omega arith)

chain : TaskChain (hold saver other) lent (saves ∷ list)
unfolding TaskChain TaskMeetsBy
chain = (
  record { there = omega arith; contract = ran_meets 1 lent saver; others = refl },
  (
    record { there = omega arith; contract = ran_meets 1 first_run.memory first_run.state; others = refl },
    (record { there = omega arith; contract = ran_meets 2 second_run.memory other; others = refl }, tt),
  ),
)

parked_calls_met : Unparked saver second_run.state third_run.memory unsaves
unfolding held_state Fits AllFitIn FitsBy asked_by task_last_held task_last_window
parked_calls_met =
    parked_calls lent (hold saver other) 0 by_fetch (run_parts 1) saves list (omega arith) fit bytes tt (tried_fit _ _, (tried_fit _ _, tt)) refl computed.1.0 computed.0.4 chain
    computed.1.1 (off_run_law _ _ _ computed.1.2) unsaves by_fetch computed.1.3 tt (record { names = computed.1.4; lent = computed.1.5; address = computed.1.6 })
    (ran_meets 1 third_run.memory second_run.state)

parked_anywhere_calls_met : UnparkedHeld park (hold saver other) lent run
unfolding states_held held_state TaskChain TaskMeetsBy AllFitIn FitsBy asked_by runs
parked_anywhere_calls_met =
    parked_anywhere_calls (hold saver other) lent run park fit bytes (tried_fit _ _, tt) (record { there = omega arith; contract = ran_meets 3 lent saver; others = refl }, tt)
    computed.2.0 (omega arith)
    (record { names = computed.0.4; byte = ltb-true _ _ computed.2.1; done = computed.2.2; off = off_run_law _ _ _ computed.2.3 })
    (record { asks = record { names = computed.2.4; lent = computed.2.5; address = computed.2.6 }; lets = inl refl })
