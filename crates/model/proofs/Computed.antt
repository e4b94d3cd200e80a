-- What an instance of a theorem takes for its hypotheses, as tests that antt computes: a state in range, needs off a frame, a place to POP at.
use Rattle.model.proofs.Logic.{suc, zero, ℕ, ◌%◌, ◌*◌, ◌+◌, ◌<◌, ◌^◌, Bool, not, true, ◌&&◌, List, [], ◌∷◌, ◌≡◌, arith, eqb, leb, ltb, get_or, length}
use Rattle.model.proofs.Logic.{eqb-false, eqb-true, leb-true, ltb-true, not-true}
use Rattle.model.specs.Octa.{octa}
use Rattle.model.specs.Plan.{All, Off}
use Rattle.model.specs.Registers.{r_o, r_g, stack_start, sp, Sized, Words}
use Rattle.model.specs.Demand.{Within, AtPop}
use Rattle.model.specs.declared.State.{State}
use Rattle.model.proofs.Bools.{and_left, and_right, each, at_each}

-- all numbers of a list are below b
unfoldable pub below : ℕ → List ℕ → Bool
below b [] = true
below b (n ∷ ns) = ltb n b && below b ns

pub below_at : (b : ℕ) (ns : List ℕ) (i : ℕ) → 0 < b → below b ns ≡ true → get_or ns i 0 < b
unfolding below
below_at b [] i p e = p
below_at b (n ∷ ns) zero p e = ltb-true _ _ (and_left (ltb n b) _ e)
below_at b (n ∷ ns) (suc i) p e = below_at b ns i p (and_right (ltb n b) _ e)

-- ---- a state

unfoldable pub ranged_state : State → Bool
ranged_state s =
    eqb (length s.general) 256 && (eqb (length s.special) 32 && (below (2 ^ 64) s.general && (below (2 ^ 64) s.special
    && below (2 ^ 64) (s.pc ∷ s.halt ∷ s.marks ∷ s.mask ∷ []))))

pub ranged : (s : State) → ranged_state s ≡ true → Sized s × Words s
unfolding ranged_state
ranged s e =
    let a = and_right (eqb (length s.general) 256) _ e in
    let b = and_right (eqb (length s.special) 32) _ a in
    let c = and_right (below (2 ^ 64) s.general) _ b in
    let r : below (2 ^ 64) (s.pc ∷ s.halt ∷ s.marks ∷ s.mask ∷ []) ≡ true = and_right (below (2 ^ 64) s.special) _ c in (
      record { generals = eqb-true _ _ (and_left _ _ e); specials = eqb-true _ _ (and_left _ _ a) },
      record {
        general_word = λ i. below_at (2 ^ 64) s.general i (omega arith) (and_left _ _ b);
        special_word = λ i. below_at (2 ^ 64) s.special i (omega arith) (and_left _ _ c);
        pc_word = below_at (2 ^ 64) _ 0 (omega arith) r;
        halt_word = below_at (2 ^ 64) _ 1 (omega arith) r;
        marks_word = below_at (2 ^ 64) _ 2 (omega arith) r;
        mask_word = below_at (2 ^ 64) _ 3 (omega arith) r;
      },
    )

-- ---- needs

-- none of xs names one of the n octabytes from a
unfoldable pub off_run : ℕ → ℕ → List ℕ → Bool
off_run a n [] = true
off_run a n (x ∷ xs) = each n (λ i. not (eqb (octa x) (octa (a + 8 * i)))) && off_run a n xs

pub off_run_law : (a n : ℕ) (xs : List ℕ) → off_run a n xs ≡ true → All (Off (Within a n)) xs
unfolding off_run All
off_run_law a n [] e = tt
off_run_law a n (x ∷ xs) e = (
  λ h. eqb-false _ _ (not-true _ (at_each n (λ i. not (eqb (octa x) (octa (a + 8 * i)))) (and_left _ _ e) h.place h.place_below)) h.named_by,
  off_run_law a n xs (and_right (each n (λ i. not (eqb (octa x) (octa (a + 8 * i))))) _ e),
)

-- ---- the POP

unfoldable pub poppable : ℕ → ℕ → State → Bool
poppable h ro s = eqb (sp s r_o) ro && (eqb (ro % 8) 0 && (ltb stack_start ro && (ltb ro 0x8000000000000000 && leb h (sp s r_g))))

pub at_pop_law : (h ro : ℕ) (s : State) → poppable h ro s ≡ true → AtPop h ro s
unfolding poppable
at_pop_law h ro s e =
    let a = and_right (eqb (sp s r_o) ro) _ e in
    let b = and_right (eqb (ro % 8) 0) _ a in
    let c = and_right (ltb stack_start ro) _ b in
    record {
      back = eqb-true _ _ (and_left _ _ e);
      aligned = eqb-true _ _ (and_left _ _ a);
      above = ltb-true _ _ (and_left _ _ b);
      below = ltb-true _ _ (and_left _ _ c);
      reach = leb-true _ _ (and_right (ltb ro 0x8000000000000000) _ c);
    }
