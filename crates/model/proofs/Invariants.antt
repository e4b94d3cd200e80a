-- Theorem 2: what every step, every exception and every fetched instruction keeps.
use Rattle.model.proofs.Logic.{ℕ, true, refl, ◌≡◌}
use Rattle.model.specs.Registers.{Sized, admissible, MarginalZero, goes, halted, with_special, stored, cleared, is_marginal, claim_local, set_register, put_locals, put_globals, spilled}
use Rattle.model.specs.Memory.{Windows, both}
use Rattle.model.specs.Lists.{step_on}
use Rattle.model.specs.Frames.{slide, pushed_rule, pushed, unslide, popped}
use Rattle.model.specs.Contexts.{saved_unspilled, saved_state, unsaved_unspilled, unsaved}
use Rattle.model.specs.Trips.{interrupted, with_added}
use Rattle.model.specs.Step.{Item, mmix}
use Rattle.model.specs.Invariants.{ItemsKeep}
use Rattle.model.specs.declared.State.{State}
use Rattle.model.proofs.Bools.{on}
use Rattle.model.proofs.ItemInvariant.{Keeps, item_keeps, item_always}
use Rattle.model.proofs.MarginalKept.{Calm, calm_keeps}
use Rattle.model.proofs.ItemWords.{item_words, item_bytes}
use Rattle.model.proofs.AdmissibleKept.{Good, adm, adm_of, goes_good, halted_good, claim_good, back_good, set_good, put_locals_good, put_globals_good, with_status_good, with_special_good, pushed_good, popped_good, saved_good, unsaved_good, tripped_good, trapped_good, added_good}

pub good_keeps : Keeps Good
good_keeps = record {
  at_pc = goes_good;
  at_halt' = halted_good;
  claim = claim_good;
  back = back_good;
  write = set_good;
  locals = put_locals_good;
  globals = put_globals_good;
  status = with_status_good;
  other = with_special_good;
  pushes = pushed_good;
  pops = popped_good;
  saves = λ s x e h. saved_good s x h;
  unsaves = unsaved_good;
  trips = tripped_good;
  traps = trapped_good;
  adds = added_good;
}

-- no builder touches the marks, nor the mask: what is said of them alone stays
rest_keep : (P : ℕ → ℕ → Type 0) → Keeps (λ t. P t.marks t.mask)
unfolding goes halted set_register stored claim_local put_locals put_globals with_special cleared pushed pushed_rule slide popped unslide saved_state saved_unspilled unsaved unsaved_unspilled spilled interrupted with_added
rest_keep P = record {
  at_pc = λ s a e. e;
  at_halt' = λ s e. e;
  claim = λ s x e. on (λ (t : State). P t.marks t.mask) (is_marginal s x) (λ f. e) (λ f. e);
  back = λ s t e f. f;
  write = λ s x v e. on (λ (t : State). P t.marks t.mask) (is_marginal s x) (λ f. e) (λ f. e);
  locals = λ s v e. e;
  globals = λ s v a b c e. e;
  status = λ s v a e. e;
  other = λ s k v a b c e. e;
  pushes = λ s h e. e;
  pops = λ s x h ls e. e;
  saves = λ s x a e. e;
  unsaves = λ s o g a l vs b c d f e. e;
  trips = λ s word u v e. e;
  traps = λ s word u v e. e;
  adds = λ s f e. e;
}

rest_same : (P : ℕ → ℕ → Type 0) (w : Windows) (s : State) (i : Item) → P s.marks s.mask
    → P (step_on both mmix s w i).state.marks (step_on both mmix s w i).state.mask
rest_same P w s i h =
    item_always (λ t. P t.marks t.mask) w s i h
    (item_keeps (λ t. P t.marks t.mask) (λ t. P t.marks t.mask) (rest_keep P) (λ t e. e) s (both.shape w) i (λ e. h) h)

good : (s : State) → Sized s → admissible s ≡ true → Good s
good s n e = record { size = n; admits = adm s e }

pub items_keep : ItemsKeep
items_keep = record {
  sized = λ w s i n. item_always Sized w s i n (item_keeps Sized Good good_keeps (λ t g. g.size) s (both.shape w) i (good s n) n);
  admitted = λ w s i n e. item_always (λ t. admissible t ≡ true) w s i e (item_keeps (λ t. admissible t ≡ true) Good good_keeps (λ t g. adm_of t g.admits) s (both.shape w) i (good s n) e);
  marginal = λ w s i n m. item_always MarginalZero w s i m
      (item_keeps MarginalZero Calm calm_keeps (λ t c. record { zero_at = c.zero_at }) s (both.shape w) i (λ e. record { good = good s n e; zero_at = m.zero_at }) m);
  marks = λ w s i. rest_same (λ m k. m ≡ s.marks) w s i refl;
  mask = λ w s i. rest_same (λ m k. k ≡ s.mask) w s i refl;
  words = item_words;
  bytes = item_bytes;
}
