-- An instance of demand 3, by step and fetched, and of what is hidden, all hypotheses computed: one that cannot be met, or one more, is noticed here.
use Rattle.model.proofs.Logic.{ℕ, ◌+◌, false, true, true≢false, List, [], ◌++◌, ◌∷◌, ◌≢◌, ap, refl, subst, sym, ◌∙◌, ◌≡◌, arith, length-set}
use Rattle.model.proofs.Logic.{get_or-set_other}
use Rattle.model.specs.Fill.{over, indexed, within, tab}
use Rattle.model.specs.Octa.{octa, part, written, value_of, bytes_of}
use Rattle.model.specs.Registers.{r_c, r_o, r_s, r_l, stack_start, sp, hideable, hides, admissible, fresh, masked, goes, halted, with_special, cleared, claim_local, stored, set_register, spilled, Sized, Words}
use Rattle.model.specs.Memory.{Windows, shape_of, ruled_one, offset, has, octa_bytes, write_octa, shapes_of, inside, octa_at, put_octa, both, ruled, shares}
use Rattle.model.specs.Plan.{Outcome, All, Off, worst, named, look, looks, puts, perform, ups, missing, needs, wider_needs}
use Rattle.model.specs.Opcodes.{op_pop, arm_of}
use Rattle.model.specs.NoMemory.{tell}
use Rattle.model.specs.Control.{target_of}
use Rattle.model.specs.Frames.{hole, framed, slid, slide, pushed_rule, pushed, push_frame, count_of, last_output, restored, unslide, popped, pop_to, pop_rule, no_frame, misplaced, pop_frame}
use Rattle.model.specs.LoadStore.{bytes_in, unit_at, operand_in}
use Rattle.model.specs.Lists.{step_on, needs_of, wider_needs_of, runs, run_needs_by}
use Rattle.model.specs.Step.{Item, fetched, refusal_of, unruled_by, refusing, plan_of, guarded, from_three, step_plan, step_of, claims, opcode_in, tetra_at, keeps_claim, settled_by, taken_back, instruction_plan, tetra_plan, fetched_plan, fetched_of, tetra_of, item_plan, mmix}
use Rattle.model.specs.Ways.{by_fetch}
use Rattle.model.specs.Demand.{Within, PUSHJ, Alike, GivesBack, after, after_needs, after_wider_needs, pop_after, Private, Claim, x_at, FetchedClaim}
use Rattle.model.specs.Unseen.{SameSeen, SameRan}
use Rattle.model.specs.Bench.{start}
use Rattle.model.specs.declared.State.{State}
use Rattle.model.proofs.Bools.{each}
use Rattle.model.proofs.Computed.{below, ranged_state, ranged, off_run, off_run_law, poppable, at_pop_law}
use Rattle.model.proofs.Demand.{demand3, demand3_wider}
use Rattle.model.proofs.DemandFetched.{demand3_fetched, demand3_fetched_wider}
use Rattle.model.proofs.Unseen.{hidden_unseen}

-- ---- a program that calls and returns

-- A: 0 SWYM, 4 PUSHJ $1,#C, 8 TRAP 0,0,0, C SWYM, 10 POP 0,0; B: six octabytes
abbrev pub lent : Windows
lent = record {
  a = record { base = 0; bytes = bytes_of 0xFD000000F2010002 ++ (bytes_of 0x00000000FD000000 ++ bytes_of 0xF800000000000000) };
  b = record { base = stack_start; bytes = bytes_of 0 ++ (bytes_of 0 ++ (bytes_of 0 ++ (bytes_of 0 ++ (bytes_of 0 ++ bytes_of 0)))) };
}

-- rO one octabyte up, rL 2, $0 is v, PC at the call
abbrev pub top : State
top = goes (with_special (with_special (with_special start r_o (stack_start + 8)) r_s (stack_start + 8)) r_l 2) 4

abbrev pub caller : ℕ → State
caller v = stored top 0 v

pub callers_alike : (v u : ℕ) → Alike 1 (caller v) (caller u)
unfolding stored
callers_alike v u = record {
  special_same = refl;
  pc_same = refl;
  halt_same = refl;
  marks_same = refl;
  mask_same = refl;
  rest_same = λ i l. get_or-set_other top.general 0 i v 0 (λ e. omega (arith, e)) ∙ sym (get_or-set_other top.general 0 i u 0 (λ e. omega (arith, e)));
}

-- the list: the instruction that is fetched at C
abbrev list : List Item
list = fetched ∷ []

-- what demand 3 asks of a call that leaves o v where $0 is v; and a POP that is fetched after the list, in both runs
abbrev Met : (ℕ → Outcome State Windows) → Type 0
Met o =
    ((o 7).reply ≡ 0) × ((o 7).state.pc ≡ (o 8).state.pc)
    × (off_run (stack_start + 8) 2 (after_needs (o 7) list) ≡ true)
    × (poppable 1 (sp (o 7).state r_o) (after (o 7) list).state ≡ true)
    × (opcode_in (tetra_of (after (o 7) list).memory (after (o 7) list).state) ≡ op_pop)
    × (refusing (shapes_of (after (o 7) list).memory) (after (o 7) list).state.pc ≡ 0)
    × (opcode_in (tetra_of (after (o 8) list).memory (after (o 8) list).state) ≡ op_pop)
    × (refusing (shapes_of (after (o 8) list).memory) (after (o 8) list).state.pc ≡ 0)
    × (off_run (stack_start + 8) 2 (after_wider_needs (o 7) list) ≡ true)

abbrev stepped : ℕ → Outcome State Windows
stepped v = step_of lent (caller v) 0xF2 1 0 2

abbrev fetched_in : ℕ → Outcome State Windows
fetched_in v = fetched_of lent (caller v)

computed : ((ranged_state (caller 7) ≡ true) × (ranged_state (caller 8) ≡ true) × (hole (caller 7) 1 ≡ 1) × (sp (caller 7) r_o ≡ stack_start + 8)
    × (opcode_in (tetra_of lent (caller 7)) ≡ 0xF2) × (x_at lent (caller 7) ≡ 1)) × Met stepped × Met fetched_in
unfolding over indexed within tab octa part written value_of bytes_of hideable hides admissible fresh goes halted with_special cleared claim_local stored set_register spilled shape_of ruled_one offset has octa_bytes write_octa shapes_of inside octa_at put_octa both ruled shares worst named look looks puts perform ups missing needs wider_needs arm_of tell target_of hole framed slid slide pushed_rule pushed push_frame count_of last_output restored unslide popped pop_to pop_rule no_frame misplaced pop_frame bytes_in unit_at operand_in step_on needs_of wider_needs_of runs run_needs_by refusal_of unruled_by refusing plan_of guarded from_three step_plan step_of claims tetra_at keeps_claim settled_by taken_back instruction_plan tetra_plan fetched_plan fetched_of item_plan mmix start each below ranged_state off_run poppable
computed = ((refl, refl, refl, refl, refl, refl), (refl, refl, refl, refl, refl, refl, refl, refl, refl), (refl, refl, refl, refl, refl, refl, refl, refl, refl))

hole_is : hole (caller 7) 1 ≡ 1
hole_is = computed.0.2

off_frame : (xs : List ℕ) → off_run (stack_start + 8) 2 xs ≡ true → All (Off (Within (sp (caller 7) r_o) (hole (caller 7) 1 + 1))) xs
off_frame xs e =
    subst (λ (a : ℕ). All (Off (Within a (hole (caller 7) 1 + 1))) xs) (sym computed.0.3)
    (subst (λ (h : ℕ). All (Off (Within (stack_start + 8) (h + 1))) xs) (sym hole_is) (off_run_law (stack_start + 8) 2 xs e))

module _ (o : ℕ → Outcome State Windows) (m : Met o) where
  -- so a POP that is fetched gives 7 back to the one and 8 to the other
  abbrev Back : State → State → Type 0
  Back s t = GivesBack 1 s (pop_after (after (o 7) list) by_fetch) × GivesBack 1 t (pop_after (after (o 8) list) by_fetch)

  both_back : (s t : State) → Private 1 s t (o 7) (o 8) list → Back s t
  both_back s t p = (
    p.first_back (at_pop_law 1 _ _ m.3) by_fetch (record { names = m.4; lent = m.5 }),
    p.second_back (at_pop_law 1 _ _ m.3) by_fetch (record { names = m.6; lent = m.7 }),
  )

alike : Alike (hole (caller 7) 1) (caller 7) (caller 8)
alike = subst (λ (h : ℕ). Alike h (caller 7) (caller 8)) (sym hole_is) (callers_alike 7 8)

-- either reading of the needs
by_claim : (needed : Outcome State Windows → List Item → List ℕ) → Claim needed → off_run (stack_start + 8) 2 (needed (stepped 7) list) ≡ true
    → Back stepped computed.1 (caller 7) (caller 8)
by_claim needed d e =
    both_back stepped computed.1 (caller 7) (caller 8)
    (subst (λ (h : ℕ). Private h (caller 7) (caller 8) (stepped 7) (stepped 8) list) hole_is
    (d lent (caller 7) (caller 8) PUSHJ 1 0 2 list (ranged _ computed.0.0).0 (ranged _ computed.0.1).0 (ranged _ computed.0.0).1 (ranged _ computed.0.1).1
    alike computed.1.0 computed.1.1 (off_frame _ e)))

demand3_met : Back stepped computed.1 (caller 7) (caller 8)
demand3_met = by_claim after_needs demand3 computed.1.2

demand3_wider_met : Back stepped computed.1 (caller 7) (caller 8)
demand3_wider_met = by_claim after_wider_needs demand3_wider computed.1.8

-- a call that is fetched pushes from the state after its claim
abbrev claimed : ℕ → State
claimed v = claim_local (caller v) 1

-- the theorem's claim, X of the tetra being x
abbrev Claimed : List ℕ → ℕ → Type 0
Claimed xs x = Sized (caller 7) → Sized (caller 8) → Words (caller 7) → Words (caller 8) → opcode_in (tetra_of lent (caller 7)) ≡ 0xF2 → Alike (hole (caller 7) x) (caller 7) (caller 8)
    → (fetched_in 7).reply ≡ 0 → (fetched_in 7).state.pc ≡ (fetched_in 8).state.pc
    → All (Off (Within (sp (caller 7) r_o) (hole (caller 7) x + 1))) xs
    → Private (hole (caller 7) x) (claim_local (caller 7) x) (claim_local (caller 8) x) (fetched_in 7) (fetched_in 8) list

by_fetched_claim : (needed : Outcome State Windows → List Item → List ℕ) → FetchedClaim needed → off_run (stack_start + 8) 2 (needed (fetched_in 7) list) ≡ true
    → Back fetched_in computed.2 (claimed 7) (claimed 8)
by_fetched_claim needed d e =
    both_back fetched_in computed.2 (claimed 7) (claimed 8)
    (subst (λ (h : ℕ). Private h (claimed 7) (claimed 8) (fetched_in 7) (fetched_in 8) list) hole_is
    (subst (Claimed (needed (fetched_in 7) list)) computed.0.5 (d lent (caller 7) (caller 8) PUSHJ list)
    (ranged _ computed.0.0).0 (ranged _ computed.0.1).0 (ranged _ computed.0.0).1 (ranged _ computed.0.1).1 computed.0.4 alike
    computed.2.0 computed.2.1 (off_frame _ e)))

demand3_fetched_met : Back fetched_in computed.2 (claimed 7) (claimed 8)
demand3_fetched_met = by_fetched_claim after_needs demand3_fetched computed.2.2

demand3_fetched_wider_met : Back fetched_in computed.2 (claimed 7) (claimed 8)
demand3_fetched_wider_met = by_fetched_claim after_wider_needs demand3_fetched_wider computed.2.8

-- ---- rC is hidden, and is 1 in the one and 2 in the other

abbrev pub hiding : ℕ → State
hiding n = masked (with_special start r_c n) 0x100

rc_hidden : hides 0x100 r_c ≡ true
unfolding hides hideable
rc_hidden = refl

pub same_seen : (n m : ℕ) → SameSeen (hiding n) (hiding m)
unfolding with_special
same_seen n m = record {
  general_same = refl;
  special_same = record {
    count_same = length-set start.special r_c n ∙ sym (length-set start.special r_c m);
    seen_same = λ k h. get_or-set_other start.special r_c k n 0 (other k h) ∙ sym (get_or-set_other start.special r_c k m 0 (other k h));
  };
  pc_same = refl;
  halt_same = refl;
  marks_same = refl;
  mask_same = refl;
}
  where
    other : (k : ℕ) → hides 0x100 k ≡ false → k ≢ r_c
    other k h e = absurd (true≢false (sym rc_hidden ∙ ap (hides 0x100) (sym e) ∙ h))

hidden_unseen_met : SameRan (runs both mmix (hiding 1) lent (fetched ∷ fetched ∷ [])) (runs both mmix (hiding 2) lent (fetched ∷ fetched ∷ []))
hidden_unseen_met = hidden_unseen.by_list lent (hiding 1) (hiding 2) (fetched ∷ fetched ∷ []) (same_seen 1 2)
