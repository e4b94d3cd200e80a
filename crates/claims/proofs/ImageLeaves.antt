-- What a number leaves of an image's bytes, whose state is s, from what it leaves of s.
use Rattle.model.proofs.Prelude.{ℕ, ◌*◌, true, List, [], ◌∷◌, inl, inr, ◌⊎◌, ⊎_elim, ap, sym, ◌∙◌, ◌≡◌, arith, with_results, sum_of, ArithmeticLeaves}
use Rattle.model.proofs.Prelude.{Interrupted, StoreLeaves, Trapped, TripLeaves, flag_v, Windows, bytes_of, written, Outcome, halted, r_a, r_b, r_bb, reg, r_w, r_ww}
use Rattle.model.proofs.Prelude.{r_x, r_xx, r_y, r_yy, r_z, r_zz, Sized, sp, with_added, word_of}
use Rattle.claims.proofs.Prelude.{State, image_as, is_image, state_of, halt_as, round_trips}
use Rattle.model.proofs.Leaves.{added_sized, results_sized}
use Rattle.model.specs.declared.Results.{Results}
use Rattle.claims.specs.CallsLeave.{replaced, at_special, at_halt, halt_bytes, trip_octas, trap_octas, NotLoadedLeaves}
use Rattle.claims.proofs.Writes.{halted_image, special_sized, interrupt_image, after_special}

module _ (l : List ℕ) (n : is_image l ≡ true) (back : image_as l (state_of l) ≡ l) where
  abbrev s : State
  s = state_of l

  abbrev zs : Sized s
  zs = round_trips.state_sized l

  pub halt_same : (m : List ℕ) (t : State) → m ≡ image_as l t → Sized t → t.halt ≡ s.halt → halt_bytes m ≡ halt_bytes l
  halt_same m t e zt h = ap halt_bytes e ∙ halt_as l t n zt ∙ ap bytes_of h ∙ sym (halt_as l s n zs) ∙ ap halt_bytes back

  -- 7 to 18, 29 and 31
  pub halted_same : (m : List ℕ) (t : State) → m ≡ image_as l t → t ≡ halted s → m ≡ replaced l ((at_halt, 1) ∷ [])
  unfolding replaced
  halted_same m t e h = e ∙ ap (image_as l) h ∙ halted_image l s zs ∙ ap (λ (c : List ℕ). written c (8 * at_halt) (bytes_of 1)) back

  pub tripped_image : (f word u v : ℕ) (t : State) → Sized t → Interrupted (with_added s f) t r_b r_w r_x r_y r_z word u v
      → image_as l t ≡ replaced l ((at_special r_a, sp (with_added s f) r_a) ∷ trip_octas s word u v)
  unfolding with_added
  tripped_image f word u v t zt h =
      interrupt_image l (with_added s f) (special_sized s zs r_a _) r_b r_w r_x r_y r_z word u v t zt h (omega arith) (omega arith) (omega arith) (omega arith) (omega arith)
      ∙ after_special l s zs r_a _ (omega arith) (λ e. omega arith) r_b r_w r_x r_y r_z word u v
      ∙ ap (λ (c : List ℕ). replaced c ((at_special r_a, sp (with_added s f) r_a) ∷ trip_octas s word u v)) back

  raised_sized : (s : State) (x : ℕ) (r : Results) (f : ℕ) → Sized s → Sized (with_added (with_results s x r) f)
  raised_sized s x r f n = added_sized (with_results s x r) f (results_sized s x r n)

  -- 19
  pub not_loaded : (w : Windows) (op x y z : ℕ) (o : Outcome State Windows) (m : List ℕ) (v : Windows) → Sized o.state → m ≡ image_as l o.state → v ≡ o.memory
      → TripLeaves w s op x y z o ⊎ (StoreLeaves w s op x y z o ⊎ ArithmeticLeaves w s op x y z o) → NotLoadedLeaves l w op x y z m v
  not_loaded w op x y z o m v zt em ev =
      ⊎_elim
      (λ h. inl (record {
        arm_is = h.arm_is;
        image_is = em ∙ interrupt_image l s zs r_b r_w r_x r_y r_z _ _ _ o.state zt h.registers (omega arith) (omega arith) (omega arith) (omega arith) (omega arith)
            ∙ ap (λ (c : List ℕ). replaced c (trip_octas s (word_of op x y z) (reg s y) (reg s z))) back;
        window_is = ev ∙ h.window;
      }))
      (⊎_elim
      (λ h. inr (inl (record {
        width = h.width;
        last = h.last;
        arm_is = h.arm_is;
        image_is = em ∙ tripped_image flag_v (word_of op x y z) (sum_of s h.last y z) (reg s x) o.state zt h.registers;
        window_is = ev ∙ h.window;
      })))
      (λ h. inr (inr (record {
        operation = h.operation;
        first = h.first;
        last = h.last;
        arm_is = h.arm_is;
        image_is = em ∙ interrupt_image l _ (raised_sized s _ _ _ zs) r_b r_w r_x r_y r_z _ _ _ o.state zt h.registers (omega arith) (omega arith) (omega arith) (omega arith) (omega arith);
        window_is = ev ∙ h.window;
      }))))

  -- 20
  pub trapped_image : (word y z : ℕ) (t : State) (m : List ℕ) → Sized t → m ≡ image_as l t → Trapped s t word (reg s y) (reg s z)
      → m ≡ replaced l (trap_octas s word (reg s y) (reg s z))
  trapped_image word y z t m zt e h =
      e ∙ interrupt_image l s zs r_bb r_ww r_xx r_yy r_zz _ _ _ t zt h (omega arith) (omega arith) (omega arith) (omega arith) (omega arith)
      ∙ ap (λ (c : List ℕ). replaced c (trap_octas s word (reg s y) (reg s z))) back
