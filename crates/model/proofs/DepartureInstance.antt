-- An instance of what a step and a fetched instruction are outside the departures, all hypotheses computed: the call of Instance is Knuth's.
use Rattle.model.proofs.Logic.{ℕ, false, true, ap, refl, subst, sym, ◌∙◌, ◌≡◌, arith}
use Rattle.model.specs.Fill.{over, indexed, within, tab}
use Rattle.model.specs.Octa.{octa, part, written, value_of, bytes_of}
use Rattle.model.specs.Registers.{r_o, r_s, stack_start, sp, reg, hideable, hides, admissible, fresh, goes, with_special, cleared, claim_local, stored, spilled}
use Rattle.model.specs.Memory.{shape_of, ruled_one, offset, has, octa_bytes, shapes_of, inside, octa_at, both, ruled, shares}
use Rattle.model.specs.Plan.{All, map_outcome, look}
use Rattle.model.specs.Opcodes.{forward, Arm, stack, push_jump, arm_of}
use Rattle.model.specs.Frames.{hole, no_frame, misplaced}
use Rattle.model.specs.LoadStore.{bytes_in, unit_at, operand_in}
use Rattle.model.specs.Step.{unruled_by, step_of, claims, opcode_in, x_in, y_in, z_in, claimed_by, fetched_of, tetra_at, tetra_of, claimed_at}
use Rattle.model.specs.Fetched.{Fetches}
use Rattle.model.specs.Rules.{read_rule, After, goes_on, interrupts}
use Rattle.model.specs.StepRule.{spilled_by, settled_rule}
use Rattle.model.specs.Departures.{ReadsZero, ReadsAlike, Outside, fetched_rule}
use Rattle.model.specs.Bench.{start}
use Rattle.model.specs.declared.State.{State}
use Rattle.model.proofs.Computed.{below, ranged_state, ranged}
use Rattle.model.proofs.Departures.{departures}
use Rattle.model.proofs.Instance.{lent, caller}

-- ---- a call is none of the arms that a condition names: rS moves with rO there

abbrev moved : After → ℕ
moved (goes_on t) = sp t r_s
moved interrupts = 0

abbrev told_by : Arm → ℕ
told_by a = moved (spilled_by a (goes_on (with_special start r_o 8)))

no_call : (a : Arm) → told_by a ≡ stack_start → stack (push_jump forward) ≡ a → ⊥
unfolding spilled_by spilled with_special start fresh
no_call a e p = let h : 8 ≡ stack_start = ap told_by p ∙ e in omega (arith, h)

-- ---- the call

-- its tetra, and the state in which $1 is claimed
abbrev word : ℕ
word = tetra_of lent (caller 7)

abbrev claimed : State
claimed = claimed_at lent (caller 7)

computed : (ranged_state (caller 7) ≡ true) × (admissible (caller 7) ≡ true) × (ruled (shapes_of lent) ≡ true) × (shares (shapes_of lent) ≡ false)
    × (inside (shapes_of lent) (caller 7).pc ≡ true) × (arm_of (opcode_in word) ≡ stack (push_jump forward))
    × (hole claimed (x_in word) ≡ 1) × (reg claimed 0 ≡ read_rule claimed 0)
    × (no_frame claimed ≡ false) × (misplaced claimed ≡ false)
unfolding over indexed within tab octa part written value_of bytes_of hideable hides admissible fresh goes with_special cleared claim_local stored shape_of ruled_one offset has octa_bytes shapes_of inside octa_at both ruled shares look arm_of hole no_frame misplaced bytes_in unit_at operand_in unruled_by claims claimed_by tetra_at read_rule start below ranged_state
computed = (refl, refl, refl, refl, refl, refl, refl, refl, refl, refl)

fetches : Fetches lent (caller 7)
fetches = record { passes = record { admitted = computed.1; windowed = computed.2; apart = computed.3 }; there = computed.4 }

-- the frame is $0 alone
frame_read_law : All (ReadsZero claimed) (tab 0 1 (λ i. i))
unfolding All tab
frame_read_law = (computed.7, tt)

outside : (x y z : ℕ) → hole claimed x ≡ 1 → Outside lent claimed (stack (push_jump forward)) x y z
unfolding spilled_by with_special start fresh ReadsAlike
outside x y z h = record {
  reads = subst (λ (n : ℕ). All (ReadsZero claimed) (tab 0 n (λ i. i))) (sym h) frame_read_law;
  put_y = λ o e. absurd (no_call _ refl e);
  get_y = λ e. absurd (no_call _ refl e);
  save_yz = λ e. absurd (no_call _ refl e);
  unsave_xy = λ e. absurd (no_call _ refl e);
  put_legal = λ o e. absurd (no_call _ refl e);
  get_known = λ e. absurd (no_call _ refl e);
  save_global = λ e. absurd (no_call _ refl e);
  sync_legal = λ e. absurd (no_call _ refl e);
  put_seen = λ o e. absurd (no_call _ refl e);
  get_seen = λ e. absurd (no_call _ refl e);
  get_local = λ e. absurd (no_call _ refl e);
  pop_frame' = λ e. computed.8;
  pop_placed = λ e. computed.9;
  unsave_low = λ e. absurd (no_call _ refl e);
  unsave_taken = λ e. absurd (no_call _ refl e);
  trip_loaded = λ e. absurd (no_call _ refl e);
  no_trap = λ e. no_call _ refl e;
  load_low = λ d g o e. absurd (no_call _ refl e);
  store_low = λ d g o e. absurd (no_call _ refl e);
  store_loaded = λ d g o e. absurd (no_call _ refl e);
  arithmetic_loaded = λ f p q e. absurd (no_call _ refl e);
}

outside_here : Outside lent claimed (arm_of (opcode_in word)) (x_in word) (y_in word) (z_in word)
outside_here = subst (λ (a : Arm). Outside lent claimed a (x_in word) (y_in word) (z_in word)) (sym computed.5) (outside (x_in word) (y_in word) (z_in word) computed.6)

by_step_met : map_outcome goes_on (step_of lent claimed (opcode_in word) (x_in word) (y_in word) (z_in word)) ≡ settled_rule lent claimed (opcode_in word) (x_in word) (y_in word) (z_in word)
by_step_met = departures.by_step lent claimed (opcode_in word) (x_in word) (y_in word) (z_in word) outside_here

by_fetched_met : map_outcome goes_on (fetched_of lent (caller 7))
    ≡ fetched_rule (caller 7) (opcode_in word) (settled_rule lent claimed (opcode_in word) (x_in word) (y_in word) (z_in word))
by_fetched_met = departures.by_fetched lent (caller 7) (ranged _ computed.0).0 fetches outside_here
