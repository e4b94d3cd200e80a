-- What each number leaves of a run: of an image's bytes, and of a struct.
use Rattle.model.proofs.Prelude.{ℕ, ◌<◌, ◌≤◌, Bool, false, true, true≢false, List, inl, inr, ◌≢◌, ◌⊎◌, ⊎_elim, ap, refl, subst, sym, ◌∙◌, ◌≡◌, arith, get_or}
use Rattle.model.proofs.Prelude.{length, Bytes, ArithmeticLeaves, LastLeaves, RunLeaves, StoreLeaves, TetraLeaves, TripLeaves, shapes_of, Windows, Early}
use Rattle.model.proofs.Prelude.{Halting, Passes, Outcome, admissible, claim_local, cleared, is_marginal, Sized, with_special, Words, grant_most, run_of, Stopped}
use Rattle.model.proofs.Prelude.{CallPasses, claimed_at, claimed_by, claims, opcode_in, tetra_of, x_in, y_in, z_in, word_of, adm, claim_good, on, unruled_is}
use Rattle.model.proofs.Prelude.{replies_leave, call_by, Ready, run_is_meant, run_open, run_ready, claim_words}
use Rattle.claims.proofs.Prelude.{State, has_room, image_as, is_image, state_of, as_same, if_other, image_same, stored_is, keeps_length, round_trips}
use Rattle.claims.proofs.Prelude.{RanImage, RanState}
use Rattle.model.specs.Numbers.{Missed}
use Rattle.claims.specs.CallsLeave.{NotLoadedLeaves, tetra_in, TetraCallLeaves, LastCallLeaves, OfCall, RunCallLeaves}
use Rattle.mmix.proofs.Entries.{ran}
use Rattle.claims.proofs.Tried.{InRange, run_range}
use Rattle.claims.proofs.OneCall.{run_mask, Counted, state_counted, image_ran}
use Rattle.claims.proofs.OwnNumbers.{fetched_own}
use Rattle.claims.proofs.ImageLeaves.{halt_same, halted_same, not_loaded, trapped_image}

-- ---- the last instruction

-- what a claim leaves is in range, under the same mask
record Held (m : ℕ) (s : State) : Type 0 where
  sized : Sized s
  words : Words s
  mask_is : s.mask ≡ m

claim_mask : (s : State) (x : ℕ) → (claim_local s x).mask ≡ s.mask
unfolding claim_local with_special cleared
claim_mask s x = on (λ (t : State). t.mask ≡ s.mask) (is_marginal s x) (λ e. refl) (λ e. refl)

claimed_held : (s : State) (op x : ℕ) → Sized s → Words s → admissible s ≡ true → Held s.mask (claimed_by s op x)
unfolding claimed_by
claimed_held s op x z h a =
    on (Held s.mask) (claims op) (λ b. record { sized = (claim_good s x (record { size = z; admits = adm s a })).size; words = claim_words s x h; mask_is = claim_mask s x })
    (λ b. record { sized = z; words = h; mask_is = refl })

module _ (l : List ℕ) (n : is_image l ≡ true) (back : image_as l (state_of l) ≡ l) (words : Words (state_of l)) (admitted : admissible (state_of l) ≡ true) where
  abbrev found : State
  found = state_of l

  -- 19, of the claimed image
  claimed_loaded : (w : Windows) (op x y z : ℕ) (c : State) (o : Outcome State Windows) (m : List ℕ) (v : Windows) → Held found.mask c → Sized o.state → m ≡ image_as l o.state → v ≡ o.memory
      → TripLeaves w c op x y z o ⊎ (StoreLeaves w c op x y z o ⊎ ArithmeticLeaves w c op x y z o) → NotLoadedLeaves (image_as l c) w op x y z m v
  claimed_loaded w op x y z c o m v h zt em ev k =
      let i : List ℕ = image_as l c in
      let room : has_room l c.mask ≡ true = keeps_length.room_again l c.mask n h.mask_is in
      let long : length i ≡ length l = keeps_length.as_length l c n h.sized in
      let e : state_of i ≡ c = keeps_length.state_as l c h.sized h.words room in
      not_loaded i (image_same l i long ∙ n) (ap (image_as i) e ∙ sym (as_same l i c long)) w op x y z o m v zt (em ∙ as_same l i o.state long) ev
      (subst (λ (q : State). TripLeaves w q op x y z o ⊎ (StoreLeaves w q op x y z o ⊎ ArithmeticLeaves w q op x y z o)) (sym e) k)

  tetra_leaves : (w : Windows) (t : ℕ) (o : Outcome State Windows) (r : ℕ) (m : List ℕ) (v : Windows) → TetraLeaves w found (claimed_at w found) t o → Sized o.state
      → r ≡ o.reply → m ≡ image_as l o.state → v ≡ o.memory → TetraCallLeaves l w t r m v
  tetra_leaves w t o r m v k zt e em ev = record {
    most = subst (λ (n : ℕ). (n ≤ 20) ⊎ ((n ≡ 22) ⊎ ((n ≡ 24) ⊎ ((n ≡ 29) ⊎ (n ≡ 31))))) (sym e) k.most;
    early = λ p. let h = k.early (subst Early e p) in (em ∙ ap (image_as l) h.0 ∙ back, ev ∙ h.1);
    missed = λ p. let h = k.missed (subst Missed e p) in (em ∙ ap (image_as l) h.0 ∙ back, ev ∙ h.1);
    halting = λ p. let h = k.halting (subst Halting e p) in (halted_same l n back m o.state em h.0, ev ∙ h.1);
    nineteen = λ p. claimed_loaded w (opcode_in t) (x_in t) (y_in t) (z_in t) (claimed_at w found) o m v
        (claimed_held found (opcode_in (tetra_of w found)) (x_in (tetra_of w found)) (round_trips.state_sized l) words admitted) zt em ev (k.nineteen (sym e ∙ p));
    twenty = λ p. let h = k.twenty (sym e ∙ p) in (trapped_image l n back (word_of (opcode_in t) (x_in t) (y_in t) (z_in t)) (y_in t) (z_in t) o.state m zt em h.0, ev ∙ h.1);
    shared = λ p. k.shared (sym e ∙ p);
    unfetched = λ p. k.unfetched (sym e ∙ p);
  }

-- ---- a run on an image

module _ (l : List ℕ) (n : is_image l ≡ true) (b : (i : ℕ) → get_or l i 0 < 256) (w : Windows) (bw : Bytes w) (grant : ℕ) where
  abbrev s : State
  s = state_of l

  abbrev stop : Stopped State Windows
  stop = run_of w s grant

  range : InRange s w
  range = record { sized = round_trips.state_sized l; words = round_trips.state_words l b; bytes = bw }

  back : image_as l s ≡ l
  back = keeps_length.as_state l n b

  -- what the count reached
  record Reached (k : LastLeaves w s stop) : Type 0 where
    sized : Sized k.reached
    words : Words k.reached
    passes : Passes k.lent k.reached
    mask_is : k.reached.mask ≡ s.mask

  reached : CallPasses w s grant → stop.reply ≢ 0 → (k : LastLeaves w s stop) → Reached k
  reached c f k =
      let d : stop.done < grant = run_is_meant.refused w s grant c f in
      let m : grant ≤ grant_most = c.granted in
      let h : InRange k.reached k.lent = subst (λ (p : Stopped State Windows). InRange p.state p.memory) k.reached_is (run_range w s stop.done range) in
      let e = run_open w s stop.done (record { passes = c.passes; granted = omega arith }) in
      let q : Ready k.lent k.reached
      = subst (λ (p : Stopped State Windows). Ready p.memory p.state) (sym e ∙ k.reached_is) (run_ready stop.done w s (record { sized = range.sized; passes = c.passes })) in
      record {
        sized = h.sized;
        words = h.words;
        passes = q.passes;
        mask_is = ap (λ (p : Stopped State Windows). p.state.mask) (sym k.reached_is) ∙ run_mask s w stop.done range.sized;
      }

  last_leaves : (r d : ℕ) (m : List ℕ) (v : Windows) → r ≡ stop.reply → d ≡ stop.done → m ≡ image_as l stop.state → v ≡ stop.memory → CallPasses w s grant → r ≢ 0
      → LastCallLeaves l w r d m v
  last_leaves r d m v er ed em ev c f =
      let k : LastLeaves w s stop = (replies_leave.by_run w s grant range.sized).refused c (λ q. f (er ∙ q)) in
      let h : Reached k = reached c (λ q. f (er ∙ q)) k in
      let i : List ℕ = image_as l k.reached in
      let long : length i ≡ length l = keeps_length.as_length l k.reached n h.sized in
      let room : has_room l k.reached.mask ≡ true = keeps_length.room_again l k.reached.mask n h.mask_is in
      let e : state_of i ≡ k.reached = keeps_length.state_as l k.reached h.sized h.words room in
      let o : Outcome State Windows = record { reply = stop.reply; state = stop.state; memory = stop.memory } in
      let at : run_of w s d ≡ record { done = stop.done; reply = 0; state = k.reached; memory = k.lent } = ap (run_of w s) ed ∙ k.reached_is in
      record {
        reached = i;
        lent = k.lent;
        reached_is = ran l n w d s refl 0 d k.reached k.lent (record {
          reply_is = ap (λ (p : Stopped State Windows). p.reply) (sym at);
          count_is = ed ∙ ap (λ (p : Stopped State Windows). p.done) (sym at);
          state_is = ap (λ (p : Stopped State Windows). p.state) (sym at);
          window_is = ap (λ (p : Stopped State Windows). p.memory) (sym at);
        }) h.mask_is i (sym (stored_is l k.reached room));
        leaves = tetra_leaves i (image_same l i long ∙ n) (ap (image_as i) e ∙ sym (as_same l i k.reached long)) (subst Words (sym e) h.words) (ap admissible e ∙ h.passes.admitted) k.lent (tetra_in k.lent i) o r m v
            (subst (λ (p : State). TetraLeaves k.lent p (claimed_at k.lent p) (tetra_of k.lent p) o) (sym e) k.leaves) (run_range w s grant range).sized er (em ∙ as_same l i stop.state long) ev;
        halt_kept = halt_same l n back i k.reached refl h.sized k.halt_kept;
      }

  -- no instruction on the way is refused by a number of the call
  no_own : CallPasses w s grant → OfCall stop.reply → ⊥
  no_own c z =
      let f : stop.reply ≢ 0 = λ q. ⊎_elim (λ e. omega (arith, q, e)) (⊎_elim (λ e. omega (arith, q, e)) (⊎_elim (λ e. omega (arith, q, e)) (λ e. omega (arith, q, e)))) z in
      let k : LastLeaves w s stop = (replies_leave.by_run w s grant range.sized).refused c f in
      let h : Reached k = reached c f k in
      fetched_own k.lent k.reached h.sized h.passes (subst OfCall (ap (λ (o : Outcome State Windows). o.reply) (sym k.last_is)) z)

  run_leaves : (r d : ℕ) (m : List ℕ) (v : Windows) → RanImage l w grant r d m v → RunCallLeaves l w grant r d m v
  run_leaves r d m v g =
      let e = image_ran l w grant r d m v n g in
      let c : Counted s w grant r d = state_counted s w grant r d stop.state v e.0 in
      let k : RunLeaves w s grant stop = replies_leave.by_run w s grant range.sized in
      record {
        most = subst (λ (q : ℕ). (q ≤ 20) ⊎ ((q ≡ 22) ⊎ ((q ≡ 24) ⊎ ((q ≡ 25) ⊎ ((q ≡ 29) ⊎ (q ≡ 31)))))) (sym c.reply_is) k.most;
        whole = λ f. let h = unpassed (f n) in (subst OfCall (sym c.reply_is) h.0, c.count_is ∙ h.1.0, e.1 ∙ ap (image_as l) h.1.1 ∙ back, e.0.window_is ∙ h.1.2);
        whole_by = λ f. let h = as_found (subst OfCall c.reply_is f) in (c.count_is ∙ h.0, e.1 ∙ ap (image_as l) h.1 ∙ back, e.0.window_is ∙ h.2);
        refused = λ _ p f. last_leaves r d m v c.reply_is c.count_is e.1 e.0.window_is p f;
        spent = λ p. halt_same l n back m stop.state e.1 (run_range w s grant range).sized (k.spent (sym c.reply_is ∙ p));
      }
    where
      Untouched : Stopped State Windows → Type 0
      Untouched p = (p.done ≡ 0) × (p.state ≡ s) × (p.memory ≡ w)

      unpassed : (CallPasses w s grant → ⊥) → OfCall stop.reply × Untouched stop
      unpassed f =
          call_by (λ p. OfCall p.reply × Untouched p) w s grant (λ a. (inl refl, (refl, refl, refl)))
          (λ a q. (⊎_elim (λ z. absurd (q z)) (⊎_elim (λ z. inr (inl z)) (λ z. inr (inr (inl z)))) (unruled_is (shapes_of w)), (refl, refl, refl)))
          (λ a q. (inr (inr (inr refl)), (refl, refl, refl))) (λ p. absurd (f p))

      as_found : OfCall stop.reply → Untouched stop
      as_found =
          call_by (λ p. OfCall p.reply → Untouched p) w s grant (λ a z. (refl, refl, refl)) (λ a q z. (refl, refl, refl)) (λ a q z. (refl, refl, refl))
          (λ p. subst (λ (o : Stopped State Windows). OfCall o.reply → Untouched o) (run_open w s grant p) (λ z. absurd (no_own p z)))

-- ---- the theorem's part

other_run : (l : List ℕ) (w : Windows) (grant r n : ℕ) (m : List ℕ) (v : Windows) → is_image l ≡ false → RanImage l w grant r n m v → RunCallLeaves l w grant r n m v
other_run l w grant r n m v h g =
    let e : r ≡ 1 = g.reply_is ∙ sym (if_other l h _ _) in
    record {
      most = inl (omega arith);
      whole = λ f. (inl e, g.count_is ∙ sym (if_other l h _ _), g.image_is ∙ sym (if_other l h _ _), g.window_is ∙ sym (if_other l h _ _));
      whole_by = λ f. (g.count_is ∙ sym (if_other l h _ _), g.image_is ∙ sym (if_other l h _ _), g.window_is ∙ sym (if_other l h _ _));
      refused = λ q. absurd (true≢false (sym q ∙ h));
      spent = λ p. absurd (omega arith);
    }

pub by_run : (l : List ℕ) (w : Windows) (grant r n : ℕ) (m : List ℕ) (v : Windows) → ((i : ℕ) → get_or l i 0 < 256) → Bytes w
    → RanImage l w grant r n m v → RunCallLeaves l w grant r n m v
by_run l w grant r n m v b bw g = go (is_image l) refl
  where
    go : (t : Bool) → is_image l ≡ t → RunCallLeaves l w grant r n m v
    go true e = run_leaves l e b w bw grant r n m v g
    go false e = other_run l w grant r n m v e g

pub by_state_run : (w : Windows) (s : State) (grant r n : ℕ) (t : State) (v : Windows) → Sized s → RanState w s grant r n t v
    → RunLeaves w s grant (record { done = n; reply = r; state = t; memory = v })
by_state_run w s grant r n t v h g =
    let k : RunLeaves w s grant (run_of w s grant) = replies_leave.by_run w s grant h in
    subst (RunLeaves w s grant)
    (sym (λ i. record { done = g.count_is i; reply = g.reply_is i; state = g.state_is i; memory = g.window_is i })) k
