-- The departures one by one, and the theorem: step and rule are equal outside the condition that each departure names. The whole step is in RuleStep.
use Rattle.model.proofs.Logic.{ℕ, ◌%◌, ◌+◌, ◌-◌, ◌<◌, ◌^◌, Bool, cond, false, true, List, [], ◌∷◌, ◌≢◌, ap, refl, sym, ◌∙◌, ◌≡◌, arith, set}
use Rattle.model.proofs.Logic.{get_or-set_other, set-get_or}
use Rattle.model.specs.Registers.{with_parts, r_c, r_o, r_s, r_i, r_u, r_k, sp, Words, Sized, MarginalZero, goes, halted, with_special, claim_local, spilled}
use Rattle.model.specs.Memory.{Windows}
use Rattle.model.specs.Plan.{All, Outcome, map_outcome}
use Rattle.model.specs.Opcodes.{Arm, arm_of}
use Rattle.model.specs.Row.{reads_in}
use Rattle.model.specs.Rows.{row_of}
use Rattle.model.specs.Trips.{trapped, trap_rule, trap_of}
use Rattle.model.specs.Step.{claims, opcode_in, x_in, y_in, z_in, keeps_claim, settled_by, claimed_by, fetched_of, tetra_of, claimed_at}
use Rattle.model.specs.Fetched.{step_said, settled, Fetches}
use Rattle.model.specs.Rules.{goes_on, counted}
use Rattle.model.specs.StepRule.{settled_rule}
use Rattle.model.specs.Departures.{ReadsZero, ReadsAlike, Outside, fetched_rule, Departures}
use Rattle.model.specs.declared.State.{State}
use Rattle.model.proofs.Fetched.{fetched_is_step}
use Rattle.model.proofs.Rules.{read_zero, frame_reads, frame_same, got_same, unsave_same}
use Rattle.model.proofs.RaisedRule.{added_same, trip_same, exception_same}
use Rattle.model.proofs.RuleStep.{step_same, spilled_same, rule_settled}
use Rattle.model.proofs.ArmRules.{pop_framed, unhidden}

-- ---- rS moves with rO

spilled_special : (s : State) (k : ℕ) → k ≢ r_s → sp (spilled s) k ≡ sp s k
unfolding spilled with_special
spilled_special s k n = get_or-set_other s.special r_s k (sp s r_o) 0 n

-- ---- marginal registers that are zero

reads_zero : (s : State) → MarginalZero s → (ks : List ℕ) → All (ReadsZero s) ks
unfolding All
reads_zero s m [] = tt
reads_zero s m (k ∷ ks) = (read_zero s k m, reads_zero s m ks)

all_read : (s : State) (a : Arm) (x y z : ℕ) → MarginalZero s → ReadsAlike s a x y z
unfolding ReadsAlike
all_read s a x y z m = reads_zero s m (reads_in (row_of a) s x y z)

-- ---- traps

trap_special_same : (s : State) (word u v k : ℕ) → k ≢ r_k → sp (trap_of s word u v).state k ≡ sp (trap_rule s word u v) k
unfolding trap_of trap_rule halted goes with_special
trap_special_same s word u v k n = sym (get_or-set_other (trapped s word u v).special r_k k 0 0 n)

-- ---- the counters

count_special : (s : State) (c u i k : ℕ) → k ≢ r_c → k ≢ r_u → k ≢ r_i → sp (counted c u i s) k ≡ sp s k
unfolding counted with_special
count_special s c u i k nc nu ni =
    let l1 : List ℕ = set s.special r_c ((sp s r_c + c) % 2 ^ 64) in
    let l2 : List ℕ = set l1 r_u ((sp s r_u + u) % 2 ^ 64) in
    get_or-set_other l2 r_i k ((sp s r_i + (2 ^ 64 - i % 2 ^ 64)) % 2 ^ 64) 0 ni
    ∙ get_or-set_other l1 r_u k ((sp s r_u + u) % 2 ^ 64) 0 nu
    ∙ get_or-set_other s.special r_c k ((sp s r_c + c) % 2 ^ 64) 0 nc

-- an octabyte to which nothing is added, and one from which nothing is taken
stays_up : (v : ℕ) → v < 2 ^ 64 → (v + 0) % 2 ^ 64 ≡ v
stays_up v h = omega arith

stays_down : (v : ℕ) → v < 2 ^ 64 → (v + (2 ^ 64 - 0 % 2 ^ 64)) % 2 ^ 64 ≡ v
stays_down v h = omega arith

count_none : (s : State) → Words s → counted 0 0 0 s ≡ s
unfolding counted with_special
count_none s h =
    rw (stays_up (sp s r_c) (h.special_word r_c), stays_up (sp s r_u) (h.special_word r_u), stays_down (sp s r_i) (h.special_word r_i))
    (λ i. with_parts s s.general (same i))
  where
    same : set (set (set s.special r_c (sp s r_c)) r_u (sp s r_u)) r_i (sp s r_i) ≡ s.special
    same = rw (set-get_or s.special r_c 0, set-get_or s.special r_u 0) (set-get_or s.special r_i 0)

-- ---- fetched

back_rule : (s : State) (op : ℕ) (o : Outcome State Windows) → claims op ≡ true → map_outcome goes_on (settled s o) ≡ fetched_rule s op (map_outcome goes_on o)
unfolding map_outcome fetched_rule settled_by
back_rule s op o e = rw e (λ i. record { reply = o.reply; state = go (keeps_claim o.reply) i; memory = o.memory })
  where
    go : (b : Bool) → goes_on (cond b o.state (with_parts o.state s.general s.special))
        ≡ cond b (goes_on o.state) (goes_on (with_parts o.state s.general s.special))
    go true = refl
    go false = refl

fetched_same : (w : Windows) (s : State) → Sized s → Fetches w s
    → Outside w (claimed_at w s) (arm_of (opcode_in (tetra_of w s))) (x_in (tetra_of w s)) (y_in (tetra_of w s)) (z_in (tetra_of w s))
    → map_outcome goes_on (fetched_of w s)
    ≡ fetched_rule s (opcode_in (tetra_of w s)) (settled_rule w (claimed_at w s) (opcode_in (tetra_of w s)) (x_in (tetra_of w s)) (y_in (tetra_of w s)) (z_in (tetra_of w s)))
fetched_same w s n f = go (claims (opcode_in (tetra_of w s))) refl
  where
    t : ℕ
    t = tetra_of w s

    go : (b : Bool) → claims (opcode_in t) ≡ b → Outside w (claimed_at w s) (arm_of (opcode_in t)) (x_in t) (y_in t) (z_in t)
        → map_outcome goes_on (fetched_of w s) ≡ fetched_rule s (opcode_in t) (settled_rule w (claimed_at w s) (opcode_in t) (x_in t) (y_in t) (z_in t))
    go true e h =
        let its : claimed_at w s ≡ claim_local s (x_in t) = unfold claimed_by in (rw e) in
        ap (map_outcome goes_on) (fetched_is_step.claiming w s n f e) ∙ back_rule s (opcode_in t) (step_said w t (claim_local s (x_in t))) e
        ∙ ap (λ (c : State). fetched_rule s (opcode_in t) (map_outcome goes_on (step_said w t c))) (sym its)
        ∙ ap (fetched_rule s (opcode_in t)) (step_same w (claimed_at w s) (opcode_in t) (x_in t) (y_in t) (z_in t) h)
    go false e h =
        let its : claimed_at w s ≡ s = unfold claimed_by in (rw e) in
        ap (map_outcome goes_on) (fetched_is_step.unclaiming w s f e ∙ ap (step_said w t) (sym its))
        ∙ step_same w (claimed_at w s) (opcode_in t) (x_in t) (y_in t) (z_in t) h ∙ sym (unfold fetched_rule in (rw e))

pub departures : Departures
departures = record {
  by_step = step_same;
  by_step_whole = λ w s op x y z h t. step_same w s op x y z h ∙ rule_settled w s op x y z t;
  by_fetched = fetched_same;
  by_exception = exception_same;
  read_marginal = read_zero;
  reads_marginal = all_read;
  push_reads = frame_reads;
  push_marginal = λ s x i n z. sym (frame_same s x (λ k l. read_zero s k z) i);
  spill = λ s n e. spilled_same s e;
  spill_general = λ s. unfold spilled with_special in refl;
  spill_special = spilled_special;
  spill_rest = λ s. unfold spilled with_special in (refl, refl, refl, refl);
  pop_frame' = pop_framed;
  unsave_taken = unsave_same;
  unhidden = unhidden;
  get_local = got_same;
  added_inexact = added_same;
  trip_loaded = trip_same;
  trap_general = λ s word u v. unfold trap_of trap_rule halted goes with_special in refl;
  trap_special = trap_special_same;
  count_none = λ s n h. count_none s h;
  count_general = λ s c u i. unfold counted with_special in refl;
  count_special = count_special;
  count_rest = λ s c u i. unfold counted with_special in (refl, refl, refl, refl);
}
