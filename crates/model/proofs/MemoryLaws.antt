-- The laws of MemoryRows.
use Rattle.model.proofs.Logic.{ℕ, Bool, cond, false, true, [], ◌∷◌, inl, inr, ap, refl, ◌∙◌, ◌≡◌, eqb, get_or}
use Rattle.model.specs.Plan.{All, answer, read, map_plan}
use Rattle.model.specs.Registers.{reg, next}
use Rattle.model.specs.Opcodes.{Width, Sign, MemoryArm, load, store, memory}
use Rattle.model.specs.NoMemory.{Said, say, tell}
use Rattle.model.specs.Control.{sum_of}
use Rattle.model.specs.Trips.{word_of, raised}
use Rattle.model.specs.LoadStore.{merged, fits, flag_v, store_says, store_to}
use Rattle.model.specs.Row.{raised_if}
use Rattle.model.specs.MemoryRows.{store_flags, memory_row}
use Rattle.model.specs.Step.{refusal_of, plan_of, from_three}
use Rattle.model.specs.StepRule.{rule_of, spilled_by}
use Rattle.model.specs.Departures.{ReadsAlike}
use Rattle.model.specs.OneRaised.{OneFlag}
use Rattle.model.specs.declared.State.{State}
use Rattle.model.proofs.Bools.{on}
use Rattle.model.proofs.ArmAnswers.{load_meets, store_meets}
use Rattle.model.proofs.SeenArms.{load_seen, store_seen, sum_same}
use Rattle.model.proofs.ArmNeeds.{load_needs, store_needs}
use Rattle.model.proofs.ArmRules.{by_plans, sum_read_law, load_plans, store_plans}
use Rattle.model.proofs.RowLaws.{Laws}

-- V where $X does not fit
store_says_law : (s : State) (d : Width) (g : Sign) (x a n : ℕ) → raised_if raised s (store_flags d g s x) n a (reg s x) ≡ store_says s d g x a n
unfolding store_says
store_says_law s d g x a n = go (fits d g (reg s x))
  where
    go : (b : Bool) → cond (eqb (cond b 0 flag_v) 0) (say 0 (next s)) (raised s (cond b 0 flag_v) n a (reg s x)) ≡ cond b (say 0 (next s)) (raised s flag_v n a (reg s x))
    go true = refl
    go false = refl

store_one : (s : State) (d : Width) (g : Sign) (x : ℕ) → OneFlag (store_flags d g s x)
store_one s d g x = on OneFlag (fits d g (reg s x)) (λ e. inl refl) (λ e. inr (inl refl))

pub memory_laws : (c : MemoryArm) → Laws (memory c) (memory_row c)
unfolding rule_of plan_of refusal_of from_three map_plan spilled_by tell ReadsAlike All
memory_laws (load d g o) = record {
  meets = λ s W Read R m op x y z wy wz mi. load_meets s W Read R m d g x (sum_of s o y z);
  seen = λ m s t op x y z h. load_seen m s t d g x _ _ (sum_same m s t o y z h) h;
  same = λ w s op x y z h. by_plans w s (memory (load d g o)) op x y z (rw (sum_read_law s o y z h.reads) (load_plans s d g x (sum_of s o y z) (h.load_low d g o refl)));
  flags = tt;
  needs = λ w s op x y z. load_needs w s d g x (sum_of s o y z);
}
memory_laws (store d g o) = record {
  meets = λ s W Read R m op x y z wy wz mi. store_meets s W Read R m d g x (sum_of s o y z) (word_of op x y z) (λ e. mi.stores d o (ap (λ (h : Sign). memory (store d h o)) e));
  seen = λ m s t op x y z h. store_seen m s t d g x _ _ (word_of op x y z) (sum_same m s t o y z h) h;
  same = λ w s op x y z h. by_plans w s (memory (store d g o)) op x y z
      (rw (sum_read_law s o y z h.reads.1, ← h.reads.0) (store_plans s d g x (sum_of s o y z) (word_of op x y z) (h.store_low d g o refl) (h.store_loaded d g o refl)));
  flags = record {
    one = λ s x y z. store_one s d g x;
    alike = λ e h k s op x y z. rw (k s (store_flags d g s x) (word_of op x y z) (sum_of s o y z) (reg s x) (store_one s d g x));
    by_raised = λ s op x y z. ap (λ (q : Said). read 6 (sum_of s o y z) 1 (λ v. answer q.reply q.state (sum_of s o y z) (merged d (sum_of s o y z) (get_or v 0 0) (reg s x) ∷ [])))
        (store_says_law s d g x (sum_of s o y z) (word_of op x y z)) ∙ (unfold store_to in refl);
  };
  needs = λ w s op x y z. store_needs w s d g x (sum_of s o y z) (word_of op x y z);
}
