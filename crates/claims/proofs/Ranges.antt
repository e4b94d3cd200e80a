-- What a call of several tasks keeps: each task's registers in range, its mask, and the windows' bytes. A turn does what the step does, or 32 leaves everything.
use Rattle.model.proofs.Prelude.{min, ℕ, ◌<◌, List, ⊎_elim, subst, sym, ◌∙◌, ◌≡◌, ℕ_discrete, arith, length, length-set, set, get_or-set_other, get_or-set_same}
use Rattle.model.proofs.Prelude.{Bytes, Fits, step_on, both, Windows, map_outcome, Outcome, fresh, fetched, Item, mmix, items_keep, run_by}
use Rattle.claims.proofs.Prelude.{State, call_of, part_at, tasks_in, turn_run, mmix_in, Own, studies, task_of, turn, foreign_meant, call_keeps, turn_is}
use Rattle.claims.proofs.Tried.{InRange, item_range}

-- ---- one task on its part

-- in range beside the windows, with b's mask
pub record Stays (b s : State) (w : Windows) : Type 0 where
  pub range : InRange s w
  pub mask_same : s.mask ≡ b.mask

step_stays : (p : Own) (b s : State) (w : Windows) (i : Item) → Fits i → Stays b s w → Stays b (step_on both (mmix_in p) s w i).state (step_on both (mmix_in p) s w i).memory
step_stays p b s w i f h =
    ⊎_elim (λ e. subst (λ (o : Outcome State Windows). Stays b o.state o.memory) (sym e) done)
    (λ e. subst (λ (o : Outcome State Windows). Stays b o.state o.memory) (sym e) h) (foreign_meant.either p w s i)
  where
    done : Stays b (step_on both mmix s w i).state (step_on both mmix s w i).memory
    done = record { range = item_range i s w f h.range; mask_same = items_keep.mask w s i ∙ h.mask_same }

-- ---- all tasks

-- states ss and windows w, from the states bs
pub record Ranged (bs ss : List State) (w : Windows) : Type 0 where
  pub count : length ss ≡ length bs
  pub each : (k : ℕ) → k < length ss → Stays (task_of bs k) (task_of ss k) w
  pub bytes : Bytes w

pub turn_ranged : (p : Own) (bs ss : List State) (w : Windows) (k : ℕ) (i : Item) → Fits i → k < length bs → Ranged bs ss w
    → Ranged bs (step_on both studies ss w (turn k p i)).state (step_on both studies ss w (turn k p i)).memory
unfolding map_outcome
turn_ranged p bs ss w k i f l h = rw (turn_is p ss w k i) (record {
  count = length-set ss k t ∙ h.count;
  each = λ j q. go j (omega (arith, length-set ss k t)) (ℕ_discrete j k);
  bytes = one.range.bytes;
})
  where
    t : State
    t = (step_on both (mmix_in p) (task_of ss k) w i).state

    v : Windows
    v = (step_on both (mmix_in p) (task_of ss k) w i).memory

    one : Stays (task_of bs k) t v
    one = step_stays p (task_of bs k) (task_of ss k) w i f (h.each k (omega (arith, h.count)))

    go : (j : ℕ) → j < length ss → Dec (j ≡ k) → Stays (task_of bs j) (task_of (set ss k t) j) v
    go j q (yes e) = rw (e, get_or-set_same ss k t fresh (omega (arith, h.count))) one
    go j q (no n) =
        let old : Stays (task_of bs j) (task_of ss j) w = h.each j q in
        rw (get_or-set_other ss k j t fresh n)
        (record { range = record { sized = old.range.sized; words = old.range.words; bytes = one.range.bytes }; mask_same = old.mask_same })

pub call_ranged : (w : Windows) (ss : List State) (ns : List ℕ) (q grant : ℕ) → length ss ≡ tasks_in ns → Ranged ss ss w
    → Ranged ss (call_of w ss ns q grant).states (call_of w ss ns q grant).memory
unfolding call_of turn_run
call_ranged w ss ns q grant n h =
    call_keeps (turn_run ns) (tasks_in ns) q (λ d. Ranged ss d.states d.memory)
    (λ k d l x r g. run_by both studies (turn k (part_at ns k) fetched) (Ranged ss) (λ r. Ranged ss r.state r.memory) (λ m r p. p) (λ ts m p. p)
    (λ ts m p e. turn_ranged (part_at ns k) ss ts m k fetched (unfold Fits in tt) (omega arith) p) (λ ts m p e. turn_ranged (part_at ns k) ss ts m k fetched (unfold Fits in tt) (omega arith) p)
    (min q d.left) d.states d.memory g) grant ss w h
