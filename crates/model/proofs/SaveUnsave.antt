-- UNSAVE reads back what SAVE stored, whatever kept those octabytes in between: by any judge (`unsave_found`), and as a step (`unsave_back`).
-- In order: a context that is found; a SAVE that is done, and what it stores; addresses; the UNSAVE.
use Rattle.model.proofs.Logic.{ℕ, ◌%◌, ◌*◌, ◌+◌, ◌-◌, ◌/◌, ◌<◌, ◌^◌, ◌≤◌, true, List, [], ap, refl, subst, sym, ◌∙◌, ◌≡◌, zero-add, arith, eqb, ltb}
use Rattle.model.proofs.Logic.{get_or, length, get_or-set_same, eq-eqb, le-leb, le-ltb, lt-leb, lt-ltb, ltb-false, ne_eqb}
use Rattle.model.specs.Fill.{over, tab}
use Rattle.model.specs.Memory.{Windows, Shapes, shapes_of, both}
use Rattle.model.specs.Plan.{Plan, answer, Outcome, perform, worst, look, looks, puts}
use Rattle.model.specs.Registers.{r_o, r_g, r_l, r_a, r_p, r_r, sp, reg, Sized, Words, admissible, next, halted, with_special, stored, spilled}
use Rattle.model.specs.Opcodes.{arm_of}
use Rattle.model.specs.NoMemory.{tell}
use Rattle.model.specs.Contexts.{extent, saved_special, saved, context_address, saved_unspilled, saved_state, save_context, below, unsaved, context_rest, context_count, context_at, unsave_context}
use Rattle.model.specs.Step.{refusal_of, unruled_by, refusing, plan_of, step_of}
use Rattle.model.specs.Demand.{Within}
use Rattle.model.specs.declared.State.{State}
use Rattle.model.proofs.Bools.{on}
use Rattle.model.proofs.Fill.{length_over}
use Rattle.model.proofs.Memory.{inside_octa, both_lawful}
use Rattle.model.proofs.Plan.{Kept, Sound, puts_shape}
use Rattle.model.proofs.Runs.{length_tab, octa_mod, worst_of, of_worst, get_d_looks, stands, perform_read}
use Rattle.model.proofs.AdmissibleKept.{Adm, adm, adm_of}
use Rattle.model.proofs.Entry.{perform_on, Inside, said_by_law, answered, step_open, step_done, sound}

-- ---- a context that is found

-- its octabytes in w, from the first local up
abbrev pub octas_of : Windows → ℕ → ℕ → ℕ → List ℕ
octas_of w p g l = looks both w (below p (l + 269 - g)) (l + 270 - g)

-- the judge j passes the whole of a context at p, of threshold g, rA a and l locals, all in range
pub record Context (j : ℕ → ℕ) (w : Windows) (p g a l : ℕ) : Type 0 where
  pub packed : worst j p 1 ≡ 0
  pub threshold_is : look both w p / 2 ^ 56 ≡ g
  pub status_is : look both w p % 2 ^ 56 ≡ a
  pub g_low : 32 ≤ g
  pub g_high : g ≤ 255
  pub a_high : a ≤ 0x3FFFF
  pub count : worst j (below p (269 - g)) 1 ≡ 0
  pub count_is : look both w (below p (269 - g)) ≡ l
  pub l_g : l ≤ g
  pub rest : worst j (below p (l + 269 - g)) (l + 270 - g) ≡ 0

pub looked : (w : Windows) (b : ℕ) → get_or (looks both w b 1) 0 0 ≡ look both w b
unfolding looks
looked w b = refl

module _ {S : Type 0} (j : ℕ → ℕ) (w : Windows) (s bad : S) (found : ℕ → ℕ → ℕ → ℕ → List ℕ → S) (p g a l : ℕ) where
  abbrev found_at : Outcome S Windows
  found_at = record { reply = 0; state = found (below p (l + 269 - g) % 2 ^ 64) g a l (octas_of w p g l); memory = w }

  rest_found : l ≤ g → worst j (below p (l + 269 - g)) (l + 270 - g) ≡ 0 → perform both j s (context_rest bad found p g a l) w ≡ found_at
  unfolding context_rest
  rest_found h r =
      rw (le-leb l g h)
      (perform_read both both_lawful j s 6 (below p (l + 269 - g)) (l + 270 - g)
      (λ vs. answer 0 (found (below p (l + 269 - g) % 2 ^ 64) g a l vs) 0 []) w r
      ∙ said_by_law j w s (found (below p (l + 269 - g) % 2 ^ 64) g a l (octas_of w p g l)) 0)

  count_found : Context j w p g a l → perform both j s (context_count bad found p g a) w ≡ found_at
  unfolding context_count
  count_found c =
      rw (le-leb 32 g c.g_low, le-leb g 255 c.g_high, le-leb a 0x3FFFF c.a_high)
      (perform_read both both_lawful j s 6 (below p (269 - g)) 1 (λ v. context_rest bad found p g a (get_or v 0 0)) w c.count
      ∙ rw (looked w (below p (269 - g)), c.count_is) (rest_found c.l_g c.rest))

  pub context_found : Context j w p g a l → perform both j s (context_at bad found p) w ≡ found_at
  unfolding context_at
  context_found c =
      perform_read both both_lawful j s 6 p 1 (λ v. context_count bad found p (get_or v 0 0 / 2 ^ 56) (get_or v 0 0 % 2 ^ 56)) w c.packed
      ∙ rw (looked w p, c.threshold_is, c.status_is) (count_found c)

-- ---- a SAVE that is done, by any judge

-- what the window holds then
abbrev pub saved_on : Windows → State → Windows
saved_on w s = puts both w (sp s r_o) (tab 0 (extent s) (saved s))

pub record Saves (j : ℕ → ℕ) (w : Windows) (s : State) (x : ℕ) : Type 0 where
  pub admits : Adm s
  pub fine : unruled_by (shapes_of w) ≡ 0
  pub global : sp s r_g ≤ x
  pub fits : worst j (sp s r_o) (extent s) ≡ 0

pub save_fits : (j : ℕ → ℕ) (w : Windows) (s : State) (x : ℕ) → (perform both j s (save_context s x) w).reply ≡ 0 → (sp s r_g ≤ x) × (worst j (sp s r_o) (extent s) ≡ 0)
unfolding save_context tell
save_fits j w s x =
    on (λ (p : Plan State). (perform both j s p w).reply ≡ 0 → (sp s r_g ≤ x) × (worst j (sp s r_o) (extent s) ≡ 0)) (ltb x (sp s r_g))
    (λ e h. absurd (omega (arith, ap (λ (o : Outcome State Windows). o.reply) (said_by_law j w s (halted s) 13), h)))
    (λ e h. (ltb-false _ _ e, rw (length_tab (extent s) 0 (saved s)) at (answered j s (next (saved_state s x)) 0 (sp s r_o) (tab 0 (extent s) (saved s)) w h)))

pub save_stores : (j : ℕ → ℕ) (w : Windows) (s : State) (x : ℕ) → Saves j w s x
    → perform both j s (save_context s x) w ≡ record { reply = 0; state = next (saved_state s x); memory = saved_on w s }
unfolding save_context perform
save_stores j w s x c = rw (le-ltb x (sp s r_g) c.global, length_tab (extent s) 0 (saved s), eq-eqb _ _ c.fits)

-- as a step
save_open : (w : Windows) (s : State) (x y z : ℕ) → admissible s ≡ true → unruled_by (shapes_of w) ≡ 0 → step_of w s 0xFA x y z ≡ perform_on w s (save_context s x)
unfolding plan_of arm_of refusal_of
save_open w s x y z a r = step_open w s 0xFA x y z a r refl

pub save_done : (w : Windows) (s : State) (x y z : ℕ) → (step_of w s 0xFA x y z).reply ≡ 0 → Saves (refusing (shapes_of w)) w s x
save_done w s x y z h =
    let m : (admissible s ≡ true) × (unruled_by (shapes_of w) ≡ 0) = step_done w s 0xFA x y z h in
    let f : (sp s r_g ≤ x) × Inside w (sp s r_o) (extent s)
    = save_fits (refusing (shapes_of w)) w s x (ap (λ (o : Outcome State Windows). o.reply) (sym (save_open w s x y z m.0 m.1)) ∙ h) in
    record { admits = adm s m.0; fine = m.1; global = f.0; fits = f.1 }

pub save_is : (w : Windows) (s : State) (x y z : ℕ) → Saves (refusing (shapes_of w)) w s x
    → step_of w s 0xFA x y z ≡ record { reply = 0; state = next (saved_state s x); memory = saved_on w s }
save_is w s x y z c = save_open w s x y z (adm_of s c.admits) c.fine ∙ save_stores (refusing (shapes_of w)) w s x c

-- the address that it puts in $X, where X is a byte
pub saved_state_address : (s : State) (x : ℕ) → Sized s → x < 256 → reg (saved_state s x) x ≡ context_address s
unfolding saved_state saved_unspilled spilled with_special stored
saved_state_address s x n l =
    let m : length s.general ≡ 256 = n.generals in
    get_or-set_same (over (λ i. 0) 0 (sp s r_g) s.general) x (context_address s) 0 (omega (arith, length_over (λ i. 0) 0 (sp s r_g) s.general))

-- ---- the octabytes that SAVE stores, by what they are

-- number k of the twelve, and back
pub saved_special_low : (k : ℕ) → k ≤ r_r → saved_special k ≡ k
unfolding saved_special
saved_special_low k h = rw (le-leb k r_r h)

pub saved_special_high : (k : ℕ) → r_p ≤ k → saved_special (k - 16) ≡ k
unfolding saved_special
saved_special_high k h = rw (lt-leb (k - 16) r_r (omega arith)) (omega arith)

module _ (s : State) (b : Adm s) where
  pub saved_local : (i : ℕ) → i < sp s r_l → saved s i ≡ reg s i
  unfolding saved
  saved_local i l = rw (lt-ltb i (sp s r_l) l)

  pub saved_count : saved s (sp s r_l) ≡ sp s r_l
  unfolding saved
  saved_count = rw (le-ltb (sp s r_l) (sp s r_l) (omega arith), eq-eqb (sp s r_l) (sp s r_l) refl)

  pub saved_global : (i : ℕ) → sp s r_g ≤ i → i < 256 → saved s (sp s r_l + 1 + (i - sp s r_g)) ≡ reg s i
  unfolding saved
  saved_global i h l =
      rw (
        le-ltb (sp s r_l + 1 + (i - sp s r_g)) (sp s r_l) (omega arith),
        ne_eqb (sp s r_l + 1 + (i - sp s r_g)) (sp s r_l) (λ e. omega arith),
        lt-ltb (sp s r_l + 1 + (i - sp s r_g)) (sp s r_l + 257 - sp s r_g) (omega arith),
      ) (ap (reg s) (omega arith))

  pub saved_twelve : (k : ℕ) → k < 12 → saved s (sp s r_l + 257 - sp s r_g + k) ≡ sp s (saved_special k)
  unfolding saved
  saved_twelve k l =
      rw (
        le-ltb (sp s r_l + 257 - sp s r_g + k) (sp s r_l) (omega arith),
        ne_eqb (sp s r_l + 257 - sp s r_g + k) (sp s r_l) (λ e. omega arith),
        le-ltb (sp s r_l + 257 - sp s r_g + k) (sp s r_l + 257 - sp s r_g) (omega arith),
        lt-ltb (sp s r_l + 257 - sp s r_g + k) (sp s r_l + 269 - sp s r_g) (omega arith),
      )
      (ap (λ (j : ℕ). sp s (saved_special j)) (omega arith))

  pub saved_packed : saved s (sp s r_l + 269 - sp s r_g) ≡ sp s r_g * 2 ^ 56 + sp s r_a
  unfolding saved
  saved_packed =
      rw (
        le-ltb (sp s r_l + 269 - sp s r_g) (sp s r_l) (omega arith),
        ne_eqb (sp s r_l + 269 - sp s r_g) (sp s r_l) (λ e. omega arith),
        le-ltb (sp s r_l + 269 - sp s r_g) (sp s r_l + 257 - sp s r_g) (omega arith),
        le-ltb (sp s r_l + 269 - sp s r_g) (sp s r_l + 269 - sp s r_g) (omega arith),
      )

  pub saved_word : Words s → (i : ℕ) → saved s i < 2 ^ 64
  unfolding saved
  saved_word w i =
      on (λ (n : ℕ). n < 2 ^ 64) (ltb i (sp s r_l)) (λ e. w.general_word i)
      (λ e. on (λ (n : ℕ). n < 2 ^ 64) (eqb i (sp s r_l)) (λ f. w.special_word r_l)
      (λ f. on (λ (n : ℕ). n < 2 ^ 64) (ltb i (sp s r_l + 257 - sp s r_g)) (λ g. w.general_word (sp s r_g + (i - sp s r_l - 1)))
      (λ g. on (λ (n : ℕ). n < 2 ^ 64) (ltb i (sp s r_l + 269 - sp s r_g)) (λ h. w.special_word (saved_special (i - (sp s r_l + 257 - sp s r_g))))
      (λ h. omega arith))))

-- ---- addresses

-- octabyte i of a run from o that is k below number m
below_is : (o m k i : ℕ) → m ≡ k + i → k ≤ 999 → below ((o + 8 * m) % 2 ^ 64) k % 2 ^ 64 ≡ (o + 8 * i) % 2 ^ 64
below_is o m k i e h = omega arith

pub further : (a b i k : ℕ) → b % 2 ^ 64 ≡ (a + 8 * i) % 2 ^ 64 → (b + 8 * k) % 2 ^ 64 ≡ (a + 8 * (i + k)) % 2 ^ 64
further a b i k e = omega arith

pub refusing_mod : (w : Shapes) (a b : ℕ) → a % 2 ^ 64 ≡ b % 2 ^ 64 → refusing w a ≡ refusing w b
unfolding refusing
refusing_mod w a b e = rw (inside_octa w a b (octa_mod a b e))

-- a judge that takes addresses modulo 2^64
abbrev pub Wraps : (ℕ → ℕ) → Type 0
Wraps j = (a b : ℕ) → a % 2 ^ 64 ≡ b % 2 ^ 64 → j a ≡ j b

-- a part of a run that passes it, under any addresses that name it
part_passes : (j : ℕ → ℕ) → Wraps j → (a n b m i : ℕ) → worst j a n ≡ 0 → b % 2 ^ 64 ≡ (a + 8 * i) % 2 ^ 64 → i + m ≤ n → worst j b m ≡ 0
part_passes j wraps a n b m i h e l =
    of_worst j m b (λ k q. wraps (b + 8 * k) (a + 8 * (i + k)) (further a b i k e) ∙ worst_of j n a (i + k) h (omega arith))

-- ---- the UNSAVE after it

-- what UNSAVE leaves of e
abbrev pub unsaved_next : State → ℕ → ℕ → ℕ → ℕ → List ℕ → State
unsaved_next e o g a l vs = next (unsaved e o g a l vs)

-- e with the registers of s's context in it, vs its octabytes
abbrev pub with_context : State → State → List ℕ → State
with_context s e vs = unsaved e (sp s r_o) (sp s r_g) (sp s r_a) (sp s r_l) vs

-- an UNSAVE on e and v that finds what SAVE stored of s: it is done, and the octabytes read are those stored
pub record Unsaves (s e : State) (v : Windows) (o : Outcome State Windows) : Type 0 where
  pub octas : List ℕ
  pub octas_are : (i : ℕ) → i < extent s → get_or octas i 0 ≡ saved s i
  pub outcome_is : o ≡ record { reply = 0; state = next (with_context s e octas); memory = v }

pub unsave_open : (w : Windows) (s : State) (x y z : ℕ) → admissible s ≡ true → unruled_by (shapes_of w) ≡ 0
    → step_of w s 0xFB x y z ≡ perform_on w s (context_at (halted s) (unsaved_next s) (reg s z))
unfolding plan_of arm_of refusal_of unsave_context
unsave_open w s x y z a r = step_open w s 0xFB x y z a r refl

-- v is any window that keeps all that the SAVE stored
module _ (j : ℕ → ℕ) (wraps : Wraps j) (w v : Windows) (snd : Sound both j (shapes_of w)) (s : State) (x : ℕ) (done : Saves j w s x) (words : Words s)
    (kept : Kept both (Within (sp s r_o) (extent s)) (saved_on w s) v) where
  pub shape_same : shapes_of v ≡ shapes_of w
  unfolding both
  shape_same = kept.shape_kept ∙ puts_shape both both_lawful (tab 0 (extent s) (saved s)) w (sp s r_o)

  stored_at : (i a : ℕ) → i < extent s → a % 2 ^ 64 ≡ (sp s r_o + 8 * i) % 2 ^ 64 → look both v a ≡ saved s i
  unfolding both
  stored_at i a l e =
      stands both both_lawful j (extent s) (saved s) w v (sp s r_o) snd done.fits (omega (arith, done.admits.l_g))
      (λ k q. saved_word s done.admits words k) kept i a l e

  packed_is : look both v (context_address s) ≡ sp s r_g * 2 ^ 56 + sp s r_a
  packed_is = let b : Adm s = done.admits in
      stored_at (sp s r_l + 269 - sp s r_g) (context_address s) (omega arith) (omega arith) ∙ saved_packed s b

  stored_context : Context j v (context_address s) (sp s r_g) (sp s r_a) (sp s r_l)
  stored_context =
      let b : Adm s = done.admits in
      record {
        packed = passes (context_address s) 1 (sp s r_l + 269 - sp s r_g) (omega arith) (omega arith);
        threshold_is = rw packed_is (omega arith);
        status_is = rw packed_is (omega arith);
        g_low = b.g_low;
        g_high = b.g_high;
        a_high = b.a_high;
        l_g = b.l_g;
        count = passes (below (context_address s) (269 - sp s r_g)) 1 (sp s r_l) (below_is (sp s r_o) _ (269 - sp s r_g) (sp s r_l) (omega arith) (omega arith)) (omega arith);
        count_is = stored_at (sp s r_l) (below (context_address s) (269 - sp s r_g)) (omega arith) (below_is (sp s r_o) _ (269 - sp s r_g) (sp s r_l) (omega arith) (omega arith)) ∙ saved_count s b;
        rest = passes (below (context_address s) (sp s r_l + 269 - sp s r_g)) (extent s) 0 (below_is (sp s r_o) _ (sp s r_l + 269 - sp s r_g) 0 (omega arith) (omega arith)) (omega arith);
      }
    where
      passes : (a n i : ℕ) → a % 2 ^ 64 ≡ (sp s r_o + 8 * i) % 2 ^ 64 → i + n ≤ extent s → worst j a n ≡ 0
      passes a n i e l = part_passes j wraps (sp s r_o) (extent s) a n i done.fits e l

  pub unsave_found : (e : State) → Unsaves s e v (perform both j e (context_at (halted e) (unsaved_next e) (context_address s)) v)
  unsave_found e =
      let b : Adm s = done.admits in
      let first : below (context_address s) (sp s r_l + 269 - sp s r_g) % 2 ^ 64 ≡ (sp s r_o + 8 * 0) % 2 ^ 64
      = below_is (sp s r_o) (sp s r_l + 269 - sp s r_g) (sp s r_l + 269 - sp s r_g) 0 (omega arith) (omega arith) in
      let o : below (context_address s) (sp s r_l + 269 - sp s r_g) % 2 ^ 64 ≡ sp s r_o = omega (arith, words.special_word r_o) in
      record {
        octas = octas_of v (context_address s) (sp s r_g) (sp s r_l);
        octas_are = λ k l. get_d_looks both both_lawful (extent s) v (below (context_address s) (sp s r_l + 269 - sp s r_g)) k l
            ∙ stored_at k _ l (further (sp s r_o) (below (context_address s) (sp s r_l + 269 - sp s r_g)) 0 k first ∙ rw (zero-add k));
        outcome_is = context_found j v e (halted e) (unsaved_next e) (context_address s) (sp s r_g) (sp s r_a) (sp s r_l) stored_context ∙ rw o;
      }

-- as a step
pub unsave_back : (w v : Windows) (s : State) (x : ℕ) → Saves (refusing (shapes_of w)) w s x → Words s → Kept both (Within (sp s r_o) (extent s)) (saved_on w s) v
    → (e : State) (i j z : ℕ) → admissible e ≡ true → reg e z ≡ context_address s → Unsaves s e v (step_of v e 0xFB i j z)
unsave_back w v s x done words kept e i j z a p =
    let same : shapes_of v ≡ shapes_of w = shape_same (refusing (shapes_of w)) (refusing_mod (shapes_of w)) w v (sound (shapes_of w)) s x done words kept in
    let o : step_of v e 0xFB i j z ≡ perform both (refusing (shapes_of w)) e (context_at (halted e) (unsaved_next e) (context_address s)) v
    = unsave_open v e i j z a (ap unruled_by same ∙ done.fine)
    ∙ (λ k. perform both (refusing (same k)) e (context_at (halted e) (unsaved_next e) (p k)) v) in
    subst (Unsaves s e v) (sym o) (unsave_found (refusing (shapes_of w)) (refusing_mod (shapes_of w)) w v (sound (shapes_of w)) s x done words kept e)
