-- An instance of a parked context, of tasks and anywhere in turns, all hypotheses computed: the context lies across both windows, as in ParkedExamples; SAVE and UNSAVE are
-- fetched, and in between the other task calls.
use Rattle.model.proofs.Prelude.{ℕ, ◌+◌, ◌-◌, true, List, [], ◌++◌, ◌∷◌, inl, refl, ◌≡◌, arith, ltb, length, replicate, ltb-true, start, context_at}
use Rattle.model.proofs.Prelude.{context_count, context_rest, extent, save_context, saved, saved_special, saved_state, saved_unspilled, unsave_context, unsaved}
use Rattle.model.proofs.Prelude.{unsaved_general, unsaved_special, unsaved_unspilled, target_of, after, after_needs, indexed, over, tab, within, framed, hole}
use Rattle.model.proofs.Prelude.{pushed, pushed_rule, push_frame, slid, slide, needs_of, Ran, run_needs_by, runs, step_on, bytes_in, operand_in, unit_at, both, has}
use Rattle.model.proofs.Prelude.{inside, octa_at, octa_bytes, offset, put_octa, ruled, ruled_one, shape_of, shapes_of, shares, Windows, write_octa, tell, bytes_of}
use Rattle.model.proofs.Prelude.{octa, part, value_of, written, arm_of, op_save, op_unsave, look, looks, map_plan, missing, named, Outcome, perform, puts, ups}
use Rattle.model.proofs.Prelude.{worst, admissible, claim_local, cleared, fresh, goes, halted, hideable, hides, put_globals, put_locals, reg, r_g, r_l, r_o, r_s}
use Rattle.model.proofs.Prelude.{set_register, sp, spilled, stack_start, stored, with_special, claims, fetched, fetched_of, fetched_plan, from_three, guarded}
use Rattle.model.proofs.Prelude.{instruction_plan, item_plan, keeps_claim, mmix, opcode_in, plan_of, refusal_of, refusing, settled_by, step_plan, taken_back, tetra_at}
use Rattle.model.proofs.Prelude.{tetra_of, tetra_plan, unruled_by, put_refusal, put_special, put_state, unless_hidden, by_fetch, done_by, x_by, z_by, each, below}
use Rattle.model.proofs.Prelude.{off_run_law, off_run, ranged, ranged_state}
use Rattle.task_model.proofs.Prelude.{needs, State}
use Rattle.task_model.specs.Tasks.{Own, owns, foreign, refusing_in, turn_judge, turn_plan, task_of, turn, studies, without32, turn_needs}
use Rattle.task_model.specs.TaskDemand.{turn_on}
use Rattle.task_model.specs.Parked.{until_unsave, UnparksTo, Unparks}
use Rattle.task_model.specs.ParkedAnywhere.{Park, at_save, saved_at, at_unsave, saver_at, saver_x, Unparked}
use Rattle.task_model.proofs.ParkedTasks.{parked_tasks, parked_survives}
use Rattle.task_model.proofs.ParkedAnywhere.{parked_anywhere}

abbrev octas : List ℕ → List ℕ
octas [] = []
octas (v ∷ vs) = bytes_of v ++ octas vs

-- A ends where B begins:   0  SAVE $255     8  UNSAVE $255    10  PUSHJ $1,#18    18  SWYM
--                          4  SWYM          C  TRAP 0,0,0     14  TRAP 0,0,0      1C  TRAP 0,0,0
abbrev pub lent : Windows
lent = record {
  a = record { base = stack_start - 88; bytes = octas ((0xFAFF0000FD000000 ∷ 0xFB0000FF00000000 ∷ 0xF201000200000000 ∷ 0xFD00000000000000 ∷ []) ++ replicate 7 0) };
  b = record { base = stack_start; bytes = octas (replicate 11 0) };
}

abbrev own : Own
own = record { start = 0; size = 72 }

abbrev others : Own
others = record { start = 72; size = 16 }

abbrev top_at : State → ℕ → State
top_at s o = with_special (with_special s r_o o) r_s o

-- a context of 16 octabytes at a misaligned rO, 7 of them in A: $0 is 7 and its only local
abbrev pub tasks : List State
tasks = goes (top_at (with_special (stored (with_special start r_g 255) 0 7) r_l 1) (stack_start - 51)) (stack_start - 88)
    ∷ goes (top_at start (stack_start + 72)) (stack_start - 72) ∷ []

abbrev park : Park
park = record {
  before = [];
  task = 0;
  part = own;
  how = by_fetch;
  list = turn 0 own fetched ∷ turn 1 others fetched ∷ turn 1 others fetched ∷ [];
  back_part = own;
  back_how = by_fetch;
  rest = [];
}

-- the first task without the other, the SWYM in between
abbrev parked : State
parked = task_of tasks 0

abbrev saved_alone : Outcome State Windows
saved_alone = done_by by_fetch op_save lent parked

abbrev waited : Ran State Windows
waited = after saved_alone (fetched ∷ [])

computed : (ltb 0 (length (at_save park tasks lent).state) ≡ true) × (ranged_state (saver_at park tasks lent) ≡ true)
    × (opcode_in (tetra_of (at_save park tasks lent).memory (saver_at park tasks lent)) ≡ 0xFA) × (ltb (saver_x park tasks lent) 256 ≡ true) × ((saved_at park tasks lent).reply ≡ 0)
    × (off_run (sp (saver_at park tasks lent) r_o) (extent (saver_at park tasks lent)) (run_needs_by both studies turn_needs (saved_at park tasks lent).state (saved_at park tasks lent).memory park.list) ≡ true)
    × (opcode_in (tetra_of (at_unsave park tasks lent).memory (task_of (at_unsave park tasks lent).state 0)) ≡ 0xFB)
    × (refusing_in own (shapes_of (at_unsave park tasks lent).memory) (task_of (at_unsave park tasks lent).state 0).pc ≡ 0)
    × (reg (task_of (at_unsave park tasks lent).state 0) (z_by by_fetch (at_unsave park tasks lent).memory (task_of (at_unsave park tasks lent).state 0))
    ≡ reg (task_of (saved_at park tasks lent).state 0) (saver_x park tasks lent))
    × ((saved_alone.reply ≡ 0) × (off_run (sp parked r_o) (extent parked) (after_needs saved_alone (fetched ∷ [])) ≡ true)
    × (opcode_in (tetra_of waited.memory waited.state) ≡ 0xFB) × (refusing (shapes_of waited.memory) waited.state.pc ≡ 0)
    × (reg waited.state (z_by by_fetch waited.memory waited.state) ≡ reg saved_alone.state (x_by by_fetch lent parked)))
unfolding over indexed within tab octa part written value_of bytes_of hideable hides admissible fresh goes halted with_special cleared claim_local stored set_register put_locals put_globals spilled shape_of ruled_one offset has octa_bytes write_octa shapes_of inside octa_at put_octa both ruled shares map_plan worst named look looks puts perform ups missing needs arm_of tell target_of hole framed slid slide pushed_rule pushed push_frame saved_special saved saved_unspilled saved_state save_context unsaved_general unsaved_special unsaved_unspilled unsaved context_rest context_count context_at unsave_context put_refusal put_state unless_hidden put_special bytes_in unit_at operand_in step_on needs_of runs run_needs_by refusal_of unruled_by refusing plan_of guarded from_three step_plan claims tetra_at keeps_claim settled_by taken_back instruction_plan tetra_plan fetched_plan fetched_of item_plan mmix start owns foreign refusing_in turn_judge turn_plan studies without32 turn_needs each below ranged_state off_run
computed = (refl, refl, refl, refl, refl, refl, refl, refl, refl, (refl, refl, refl, refl, refl))

parked_anywhere_met : Unparked park tasks lent
parked_anywhere_met =
    parked_anywhere park tasks lent (record { there = ltb-true _ _ computed.0; sized = (ranged _ computed.1).0; words = (ranged _ computed.1).1 })
    (record { names = computed.2; byte = ltb-true _ _ computed.3; done = computed.4; off = off_run_law _ _ _ computed.5 })
    (record { asks = record { names = computed.6; lent = computed.7; address = computed.8 }; lets = inl refl })

parked_tasks_met : UnparksTo 0 (task_of tasks 0) (until_unsave own lent tasks 0 by_fetch park.list)
    (turn_on own (until_unsave own lent tasks 0 by_fetch park.list).memory (until_unsave own lent tasks 0 by_fetch park.list).state 0 fetched)
unfolding runs
parked_tasks_met =
    parked_tasks own lent tasks 0 by_fetch by_fetch park.list (omega arith) (ranged _ computed.1).0 (ranged _ computed.1).1
    computed.2 (ltb-true _ _ computed.3) computed.4 (off_run_law _ _ _ computed.5) (record { names = computed.6; lent = computed.7; address = computed.8 })

parked_survives_met : Unparks parked waited (done_by by_fetch op_unsave waited.memory waited.state)
unfolding runs
parked_survives_met =
    parked_survives lent parked by_fetch by_fetch (fetched ∷ []) (ranged _ computed.1).0 (ranged _ computed.1).1 computed.2 (ltb-true _ _ computed.3)
    computed.9.0 (off_run_law _ _ _ computed.9.1) (record { names = computed.9.2; lent = computed.9.3; address = computed.9.4 })
