-- Of two states that differ only in hidden registers each arm makes the same accesses, gives the same reply and leaves such states. SeenStates has the state
-- builders.
use Rattle.model.proofs.Logic.{ℕ, ◌%◌, ◌+◌, ◌-◌, ◌/◌, ◌<◌, ◌^◌, ◌≤◌, Bool, cond, false, not, true, ◌&&◌, List, [], ◌∷◌, refl, subst, sym, ◌≡◌, arith}
use Rattle.model.proofs.Logic.{bit_and, eqb, leb, ltb, get_or, ltb-false, ltb-true}
use Rattle.model.specs.Fill.{tab}
use Rattle.model.specs.Registers.{r_d, r_h, r_r, r_b, r_bb, r_o, r_g, r_l, r_a, r_w, r_x, r_y, r_z, r_ww, r_xx, r_yy, r_zz, sp, reg, hideable, hides, admissible}
use Rattle.model.specs.Opcodes.{Width, Sign, Operand, register, immediate}
use Rattle.model.specs.NoMemory.{Said, say, refuse, tell}
use Rattle.model.specs.Control.{sum_of, operand_of}
use Rattle.model.specs.Frames.{hole, framed, push_frame, pop_to, pop_rule, no_frame, misplaced, pop_frame}
use Rattle.model.specs.Contexts.{saved_special, saved, save_context, context_rest, context_count, context_at}
use Rattle.model.specs.System.{put_refusal, unless_hidden, put_special, got, get_special, sync_of}
use Rattle.model.specs.Trips.{tripped, is_loaded, trip_rule, trip_to, trap_of, enabled, vector_of, with_added, raised}
use Rattle.model.specs.LoadStore.{merged, fits, load_from, flag_v, store_says, store_to}
use Rattle.model.specs.ArithmeticStep.{results_in, with_results, arithmetic_says}
use Rattle.model.specs.Step.{exception_of}
use Rattle.model.specs.declared.State.{State}
use Rattle.model.specs.declared.Operation.{Operation}
use Rattle.model.specs.declared.Results.{Results}
use Rattle.model.proofs.Bools.{on_both, each, at_each}
use Rattle.model.proofs.Related.{Related}
use Rattle.model.proofs.SeenStates.{Seen, seen, g_same, l_same, o_same, a_same, reg_same, hides_same, admissible_same, goes_seen, next_seen, halted_seen, write_seen, pushed_seen, popped_seen, saved_seen, interrupted_seen, added_seen, put_state_seen, results_seen}

-- by two tests that come to the same
pub by_test : {A B : Type 0} (Q : A → B → Type 0) {x y : A} {u v : B} (b c : Bool) → b ≡ c → (b ≡ true → Q x u) → (b ≡ false → Q y v) → Q (cond b x y) (cond c u v)
by_test Q {x} {y} {u} {v} b c e f g = subst (λ (d : Bool). Q (cond b x y) (cond d u v)) e (on_both Q b f g)

pub put_refusal_same : (s t : State) (x v : ℕ) → sp s r_l ≡ sp t r_l → put_refusal s x v ≡ put_refusal t x v
unfolding put_refusal
put_refusal_same s t x v l = rw l

module _ (m : ℕ) where
  abbrev R : State → State → Type 0
  R s t = Seen m s t

  -- ---- steps that touch no memory

  pub record Says (d e : Said) : Type 0 where
    pub reply_same : d.reply ≡ e.reply
    pub states : R d.state e.state

  pub tells : (d e : Said) → Says d e → Related R (tell d) (tell e)
  unfolding tell Related
  tells d e h = (h.reply_same, h.states, refl, refl)

  pub done : (s t : State) → R s t → Says (say 0 s) (say 0 t)
  done s t h = record { reply_same = refl; states = h }

  pub refused : (r : ℕ) (s t : State) → R s t → Says (refuse r s) (refuse r t)
  refused r s t h = record { reply_same = refl; states = halted_seen m s t h }

  trip_seen : (s t : State) (k word u v : ℕ) → R s t → Says (trip_to s k word u v) (trip_to t k word u v)
  unfolding trip_to trip_rule
  trip_seen s t k word u v h =
      let x : R (tripped s word u v) (tripped t word u v) = interrupted_seen m s t r_b r_w r_x r_y r_z word u v h in
      let q : is_loaded s k ≡ is_loaded t k = (λ i. eqb (h.marks_same i / 2 ^ k % 2) 1) in
      (by_test Says (is_loaded s k) (is_loaded t k) q (λ e. done _ _ (goes_seen m _ _ _ _ refl x)) (λ e. refused 19 _ _ x))

  raised_seen : (s t : State) (f word u v : ℕ) → R s t → Says (raised s f word u v) (raised t f word u v)
  unfolding raised
  raised_seen s t f word u v h =
      let a : sp s r_a ≡ sp t r_a = a_same m s t h in
      let e : enabled s f ≡ enabled t f = (λ i. bit_and (f % 256) (a i / 256 % 256)) in
      by_test Says (eqb (enabled s f) 0) (eqb (enabled t f) 0) (λ i. eqb (e i) 0) (λ q. done _ _ (next_seen m _ _ (added_seen m s t f h)))
      (λ q. subst (λ (k : ℕ). Says (trip_to (with_added s f) (vector_of (enabled s f)) word u v) (trip_to (with_added t f) (vector_of k) word u v)) e (trip_seen _ _ _ word u v (added_seen m s t f h)))

  pub exception_seen : (s t : State) (f op x y z u v : ℕ) → R s t → Says (exception_of s f op x y z u v) (exception_of t f op x y z u v)
  unfolding exception_of
  exception_seen s t f op x y z u v h =
      (by_test Says (admissible s) (admissible t) (admissible_same m s t h) (λ e. raised_seen s t f _ u v h) (λ e. record { reply_same = refl; states = h }))

  unless_seen : (s t : State) (k : ℕ) (d e : Said) → R s t → (hides m k ≡ false → Says d e) → Says (unless_hidden s k d) (unless_hidden t k e)
  unfolding unless_hidden
  unless_seen s t k d e h f =
      by_test Says (hides s.mask k) (hides t.mask k) (hides_same m s t k h) (λ g. refused 31 s t h) (λ g. f (rw h.first_mask at g))

  put_seen : (s t : State) (x v : ℕ) → R s t → Says (put_special s x v) (put_special t x v)
  unfolding put_special
  put_seen s t x v h =
      let e : put_refusal s x v ≡ put_refusal t x v = put_refusal_same s t x v (l_same m s t h) in
      rw e (unless_seen s t x _ _ h
      (λ f. on_both Says (eqb (put_refusal t x v) 0) (λ f. done _ _ (next_seen m _ _ (put_state_seen m s t x v h))) (λ f. refused _ s t h)))

  pub get_seen : (s t : State) (x z : ℕ) → R s t → Says (get_special s x z) (get_special t x z)
  unfolding get_special got
  get_seen s t x z h = unless_seen s t z _ _ h (λ e. done _ _ (next_seen m _ _ (write_seen m s t x _ _ (h.special_same.seen_same z e) h)))

  pub sync_seen : (s t : State) (n : ℕ) → R s t → Says (sync_of s n) (sync_of t n)
  unfolding sync_of
  sync_seen s t n h = on_both Says (ltb 7 n) (λ e. refused 18 s t h) (λ e. on_both Says (leb 4 n) (λ f. refused 17 s t h) (λ f. done _ _ (next_seen m s t h)))

  -- ---- steps that do

  tab_same : (n i : ℕ) (f g : ℕ → ℕ) → ((k : ℕ) → f k ≡ g k) → tab i n f ≡ tab i n g
  tab_same n i f g e = λ j. tab i n (λ k. e k j)

  framed_same : (s t : State) (n k : ℕ) → R s t → framed s n k ≡ framed t n k
  unfolding framed
  framed_same s t n k h = λ i. cond (ltb k n) (get_or (h.general_same i) k 0) n

  push_seen : (s t : State) (n u v : ℕ) → u ≡ v → R s t → Related R (push_frame s n u) (push_frame t n v)
  unfolding push_frame Related
  push_seen s t n u v e h = (refl, goes_seen m _ _ u v e (pushed_seen m s t n h), o_same m s t h, tab_same (n + 1) 0 _ _ (λ k. framed_same s t n k h))

  hole_same : (s t : State) (x : ℕ) → R s t → hole s x ≡ hole t x
  unfolding hole
  hole_same s t x h = let g : sp s r_g ≡ sp t r_g = g_same m s t h in let l : sp s r_l ≡ sp t r_l = l_same m s t h in λ i. cond (leb (g i) x) (l i) x

  pub call_seen : (s t : State) (x u v : ℕ) → u ≡ v → R s t → Related R (push_frame s (hole s x) u) (push_frame t (hole t x) v)
  call_seen s t x u v e h = rw (hole_same s t x h) (push_seen s t (hole t x) u v e h)

  pub pop_seen : (s t : State) (x u v : ℕ) → u ≡ v → R s t → Related R (pop_frame s x u) (pop_frame t x v)
  unfolding pop_frame no_frame misplaced pop_rule pop_to
  pop_seen s t x u v e h =
      let o : sp s r_o ≡ sp t r_o = o_same m s t h in
      let g : sp s r_g ≡ sp t r_g = g_same m s t h in
      rw (o, g, e) (on_both (Related R) (leb (sp t r_o) 0x6000000000000000) (λ p. tells _ _ (refused 29 s t h))
      (λ p. on_both (Related R) (not (eqb (sp t r_o % 8) 0 && ltb (sp t r_o) 0x8000000000000000)) (λ q. tells _ _ (refused 12 s t h))
      (λ q. unfold Related in (refl, refl, refl, λ vs. (refl, refl, refl, λ ls. (refl, goes_seen m _ _ _ _ refl (popped_seen m s t x _ ls h), refl, refl))))))

  -- the twelve specials that SAVE stores may not be hidden
  twelve : (k : ℕ) → k < 12 → hideable (saved_special k) ≡ false
  twelve k l = flip (hideable (saved_special k)) (at_each 12 (λ n. not (hideable (saved_special n))) (unfold each hideable saved_special in refl) k l)
    where
      flip : (b : Bool) → not b ≡ true → b ≡ false
      flip true e = sym e
      flip false e = refl

  octa_same : (s t : State) (i : ℕ) → R s t → saved s i ≡ saved t i
  unfolding saved
  octa_same s t i h =
      rw (l_same m s t h, g_same m s t h, a_same m s t h) (on_both (λ (x y : ℕ). x ≡ y) (ltb i (sp t r_l)) (λ e. reg_same m s t i h)
      (λ e. on_both (λ (x y : ℕ). x ≡ y) (eqb i (sp t r_l)) (λ f. refl)
      (λ f. on_both (λ (x y : ℕ). x ≡ y) (ltb i (sp t r_l + 257 - sp t r_g)) (λ p. reg_same m s t _ h)
      (λ p. on_both (λ (x y : ℕ). x ≡ y) (ltb i (sp t r_l + 269 - sp t r_g))
      (λ q. let b : sp t r_l + 257 - sp t r_g ≤ i = ltb-false _ _ p in let c : i < sp t r_l + 269 - sp t r_g = ltb-true _ _ q in
      seen m s t (saved_special (i - (sp t r_l + 257 - sp t r_g))) (twelve _ (omega arith)) h) (λ q. refl)))))

  pub save_seen : (s t : State) (x : ℕ) → R s t → Related R (save_context s x) (save_context t x)
  unfolding save_context Related
  save_seen s t x h =
      let l : sp s r_l ≡ sp t r_l = l_same m s t h in
      let g : sp s r_g ≡ sp t r_g = g_same m s t h in
      by_test (Related R) (ltb x (sp s r_g)) (ltb x (sp t r_g)) (λ i. ltb x (g i)) (λ e. tells _ _ (refused 13 s t h))
      (λ e. (refl, next_seen m _ _ (saved_seen m s t x h), o_same m s t h, λ i. tab 0 (l i + 270 - g i) (λ k. octa_same s t k h i)))

  -- a context, whatever is made of it
  pub context_seen : (bad bad' : State) (found found' : ℕ → ℕ → ℕ → ℕ → List ℕ → State) (p q : ℕ) → p ≡ q → R bad bad'
      → ((o g a l : ℕ) (vs : List ℕ) → R (found o g a l vs) (found' o g a l vs)) → Related R (context_at bad found p) (context_at bad' found' q)
  unfolding context_at context_count context_rest Related
  context_seen bad bad' found found' p q e b f =
      rw e (
        refl,
        refl,
        refl,
        λ vs. on_both (Related R) (leb 32 (get_or vs 0 0 / 2 ^ 56) && leb (get_or vs 0 0 / 2 ^ 56) 255)
            (λ x. on_both (Related R) (leb (get_or vs 0 0 % 2 ^ 56) 0x3FFFF)
            (λ y. (refl, refl, refl, λ c. on_both (Related R) (leb (get_or c 0 0) (get_or vs 0 0 / 2 ^ 56)) (λ z. (refl, refl, refl, λ ls. (refl, f _ _ _ _ ls, refl, refl))) (λ z. (refl, b, refl, refl))))
            (λ y. (refl, b, refl, refl)))
            (λ x. (refl, b, refl, refl)),
      )

  pub load_seen : (s t : State) (d : Width) (g : Sign) (x a b : ℕ) → a ≡ b → R s t → Related R (load_from s d g x a) (load_from t d g x b)
  unfolding load_from Related
  load_seen s t d g x a b e h = rw e (refl, refl, refl, λ v. (refl, next_seen m _ _ (write_seen m s t x _ _ refl h), refl, refl))

  says_seen : (s t : State) (d : Width) (g : Sign) (x a word : ℕ) → R s t → Says (store_says s d g x a word) (store_says t d g x a word)
  unfolding store_says
  says_seen s t d g x a word h =
      rw (reg_same m s t x h) (on_both Says (fits d g (reg t x)) (λ e. done _ _ (next_seen m s t h)) (λ e. raised_seen s t flag_v word a (reg t x) h))

  pub store_seen : (s t : State) (d : Width) (g : Sign) (x a b word : ℕ) → a ≡ b → R s t → Related R (store_to s d g x a word) (store_to t d g x b word)
  unfolding store_to Related
  store_seen s t d g x a b word e h =
      let n : Says (store_says s d g x b word) (store_says t d g x b word) = says_seen s t d g x b word h in
      rw e (refl, refl, refl, λ v. (n.reply_same, n.states, refl, λ i. merged d b (get_or v 0 0) (reg_same m s t x h i) ∷ []))

  results_same : (s t : State) (f : Operation) (u v : ℕ) → R s t → results_in s f u v ≡ results_in t f u v
  results_same s t f u v h =
      rw (seen m s t r_d (unfold hideable in refl) h, seen m s t r_h (unfold hideable in refl) h, seen m s t r_r (unfold hideable in refl) h)

  pub arithmetic_seen : (s t : State) (f : Operation) (x u v u' v' word : ℕ) → u ≡ u' → v ≡ v' → R s t → Says (arithmetic_says s f x u v word) (arithmetic_says t f x u' v' word)
  unfolding arithmetic_says
  arithmetic_seen s t f x u v u' v' word d e h =
      let r : Results = results_in t f u' v' in
      let w : R (with_results s x r) (with_results t x r) = results_seen m s t x r h in
      rw (d, e, results_same s t f u' v' h) (on_both Says (eqb r.flags 0) (λ q. done _ _ (next_seen m _ _ w)) (λ q. raised_seen _ _ r.flags word u' v' w))

  pub operand_same : (s t : State) (o : Operand) (z : ℕ) → R s t → operand_of s o z ≡ operand_of t o z
  operand_same s t register z h = reg_same m s t z h
  operand_same s t immediate z h = refl

  pub sum_same : (s t : State) (o : Operand) (y z : ℕ) → R s t → sum_of s o y z ≡ sum_of t o y z
  sum_same s t o y z h = λ i. (reg_same m s t y h i + operand_same s t o z h i) % 2 ^ 64

  pub trip_at : (s t : State) (word u v u' v' : ℕ) → u ≡ u' → v ≡ v' → R s t → Says (trip_to s 0 word u v) (trip_to t 0 word u' v')
  trip_at s t word u v u' v' e f h = rw (e, f) (trip_seen s t 0 word u' v' h)

  pub trap_at : (s t : State) (word u v u' v' : ℕ) → u ≡ u' → v ≡ v' → R s t → Says (trap_of s word u v) (trap_of t word u' v')
  unfolding trap_of
  trap_at s t word u v u' v' e f h = rw (e, f) (refused 20 _ _ (interrupted_seen m s t r_bb r_ww r_xx r_yy r_zz word u' v' h))

  pub put_at : (s t : State) (x u v : ℕ) → u ≡ v → R s t → Says (put_special s x u) (put_special t x v)
  put_at s t x u v e h = rw e (put_seen s t x v h)
