-- An instance of demand 3 of the C functions, all hypotheses computed: on structs, PUSHJ by mmix_step_parts where $0 is 7 in the one chain and 8 in the other; then
-- mmix_run_parts of one instruction, and another that does the POP.
use Rattle.model.proofs.Prelude.{ℕ, ◌+◌, true, List, [], ◌∷◌, refl, subst, sym, ◌∙◌, ◌≡◌, arith, start, target_of, Alike, PUSHJ, indexed, over, tab, within}
use Rattle.model.proofs.Prelude.{count_of, framed, hole, last_output, misplaced, no_frame, pop_frame, popped, pop_rule, pop_to, pushed, pushed_rule, push_frame}
use Rattle.model.proofs.Prelude.{restored, slid, slide, unslide, Bytes, Fits, needs_of, run_needs, run_needs_by, step_on, bytes_in, operand_in, unit_at, both, has}
use Rattle.model.proofs.Prelude.{inside, octa_at, octa_bytes, offset, put_octa, ruled, ruled_one, shape_of, shapes_of, shares, Windows, write_octa, tell, bytes_of}
use Rattle.model.proofs.Prelude.{octa, part, value_of, written, arm_of, op_pop, look, looks, missing, named, Outcome, perform, puts, ups, worst, admissible}
use Rattle.model.proofs.Prelude.{claim_local, cleared, fresh, goes, halted, hideable, hides, reg, r_o, set_register, sp, spilled, stored, with_special, run_for}
use Rattle.model.proofs.Prelude.{run_of, Stopped, claims, fetched, fetched_plan, from_three, guarded, instruction_plan, item_plan, keeps_claim, mmix, opcode_in}
use Rattle.model.proofs.Prelude.{plan_of, refusal_of, refusing, settled_by, step, step_of, step_plan, taken_back, tetra_at, tetra_of, tetra_plan, unruled_by, by_fetch}
use Rattle.model.proofs.Prelude.{each, at_pop_law, below, below_at, off_run_law, off_run, poppable, ranged, ranged_state, caller, callers_alike}
use Rattle.claims.proofs.Prelude.{needs, State, lent}
use Rattle.claims.specs.OneCall.{struct, held_state, HeldFits, on_parts, run_parts, Made, tried_items, asked_by, asked, AsStruct, StateCall, MeetsBy, Meets}
use Rattle.claims.specs.Calls.{Chain, entries, last_held, last_window, items, AllFit, Returns, PrivateCalls}
use Rattle.claims.proofs.Calls.{demand3_calls}

-- a run, and PUSHJ $1,@+8 by step, on a struct, as their contracts say
abbrev pub ran : ℕ → Windows → State → Made
ran g w s = record { entry = run_parts g; reply = (run_of w s g).reply; count = (run_of w s g).done; held = struct (run_of w s g).state; window = (run_of w s g).memory }

abbrev pub pushing : Windows → State → Made
pushing w s = record {
  entry = on_parts (step 0xF2 1 0 2);
  reply = (step_of w s 0xF2 1 0 2).reply;
  count = 0;
  held = struct (step_of w s 0xF2 1 0 2).state;
  window = (step_of w s 0xF2 1 0 2).memory;
}

pub ran_meets : (g : ℕ) (w : Windows) (s : State) → Meets (struct s) w (ran g w s)
unfolding MeetsBy AsStruct
ran_meets g w s = record { reply_is = refl; count_is = refl; state_is = refl; window_is = refl }

pub pushing_meets : (w : Windows) (s : State) → Meets (struct s) w (pushing w s)
unfolding MeetsBy AsStruct StateCall
pushing_meets w s = record { reply_is = refl; state_is = refl; window_is = refl }

-- where $0 is v: the call, the list, which is SWYM at C, and the POP
abbrev pub called : ℕ → Outcome State Windows
called v = step_of lent (caller v) 0xF2 1 0 2

abbrev pub listed : ℕ → Stopped State Windows
listed v = run_of (called v).memory (called v).state 1

abbrev call : ℕ → Made
call v = pushing lent (caller v)

abbrev list : ℕ → List Made
list v = ran 1 (called v).memory (called v).state ∷ []

abbrev pub returning : ℕ → Made
returning v = ran 1 (listed v).memory (listed v).state

-- what is asked of each chain
abbrev Met : ℕ → Type 0
Met v =
    (ranged_state (caller v) ≡ true) × (asked (returning v) ≡ fetched ∷ []) × (opcode_in (tetra_of (listed v).memory (listed v).state) ≡ op_pop)
    × (refusing (shapes_of (listed v).memory) (listed v).state.pc ≡ 0) × (reg (caller v) 0 ≡ v)

pub computed : ((below 256 lent.a.bytes ≡ true) × (below 256 lent.b.bytes ≡ true) × (hole (caller 7) 1 ≡ 1) × (items (list 7) ≡ fetched ∷ []) × ((call 7).reply ≡ 0)
    × ((called 7).state.pc ≡ (called 8).state.pc)
    × (off_run (sp (caller 7) r_o) (hole (caller 7) 1 + 1) (run_needs both mmix (called 7).state (called 7).memory (items (list 7))) ≡ true)
    × (poppable 1 (sp (called 7).state r_o) (listed 7).state ≡ true)) × Met 7 × Met 8
unfolding over indexed within tab octa part written value_of bytes_of hideable hides admissible fresh goes halted with_special cleared claim_local stored set_register spilled shape_of ruled_one offset has octa_bytes write_octa shapes_of inside octa_at put_octa both ruled shares worst named look looks puts perform ups missing needs arm_of tell target_of hole framed slid slide pushed_rule pushed push_frame count_of last_output restored unslide popped pop_to pop_rule no_frame misplaced pop_frame bytes_in unit_at operand_in step_on needs_of run_needs_by refusal_of unruled_by refusing plan_of guarded from_three step_plan step_of claims tetra_at keeps_claim settled_by taken_back instruction_plan tetra_plan fetched_plan item_plan mmix run_for run_of start each below ranged_state off_run poppable tried_items asked_by items
computed = ((refl, refl, refl, refl, refl, refl, refl, refl), (refl, refl, refl, refl, refl), (refl, refl, refl, refl, refl))

pub bytes : Bytes lent
bytes = record { byte_a = λ i. below_at 256 lent.a.bytes i (omega arith) computed.0.0; byte_b = λ i. below_at 256 lent.b.bytes i (omega arith) computed.0.1 }

pub alike : Alike (hole (caller 7) 1) (caller 7) (caller 8)
alike = subst (λ (h : ℕ). Alike h (caller 7) (caller 8)) (sym computed.0.2) (callers_alike 7 8)

chain : (v : ℕ) → Chain (struct (caller v)) lent (call v ∷ list v)
unfolding Chain
chain v = (pushing_meets lent (caller v), (ran_meets 1 (called v).memory (called v).state, tt))

kept : PrivateCalls 1 (struct (caller 7)) (struct (caller 8)) (call 7) (call 8) (list 7) (list 8)
unfolding held_state HeldFits asked_by entries
kept =
    subst (λ (h : ℕ). PrivateCalls h (struct (caller 7)) (struct (caller 8)) (call 7) (call 8) (list 7) (list 8)) computed.0.2
    (demand3_calls lent (struct (caller 7)) (struct (caller 8)) PUSHJ 1 0 2 (call 7) (call 8) (list 7) (list 8) (ranged _ computed.1.0) (ranged _ computed.2.0) bytes
    (record { op_byte = omega arith; x_byte = omega arith; y_byte = omega arith; z_byte = omega arith }) (subst AllFit (sym computed.0.3) (unfold AllFit Fits in (tt, tt)))
    alike refl refl refl (chain 7) (chain 8) computed.0.4 computed.0.5 (off_run_law _ _ _ computed.0.6))

-- so $0 is 7 again in what the one holds after the POP, and 8 in what the other holds
abbrev pub Back : Type 0
Back = (reg (held_state (returning 7).held) 0 ≡ 7) × (reg (held_state (returning 8).held) 0 ≡ 8)

-- by a POP that gives back in both
pub both_back : Returns 1 (caller 7) (struct (listed 7).state) (listed 7).memory → Returns 1 (caller 8) (struct (listed 8).state) (listed 8).memory → Back
unfolding held_state Fits
both_back a b = (
  (a (returning 7) by_fetch computed.1.1 tt (record { names = computed.1.2; lent = computed.1.3 }) (ran_meets 1 (listed 7).memory (listed 7).state)).1 0 (omega arith) ∙ computed.1.4,
  (b (returning 8) by_fetch computed.2.1 tt (record { names = computed.2.2; lent = computed.2.3 }) (ran_meets 1 (listed 8).memory (listed 8).state)).1 0 (omega arith) ∙ computed.2.4,
)

demand3_calls_met : Back
unfolding held_state last_held last_window
demand3_calls_met = both_back (kept.first_back (at_pop_law 1 _ _ computed.0.7)) (kept.second_back (at_pop_law 1 _ _ computed.0.7))
