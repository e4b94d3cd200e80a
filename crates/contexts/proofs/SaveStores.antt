-- Laws of SAVE: a run that goes on, stores one after another as the whole run of a context's octabytes, and the registers after it.
-- What is answered is in SaveUnsaveAnswers.
use Rattle.model.proofs.Prelude.{min, ℕ, ◌%◌, ◌*◌, ◌+◌, ◌-◌, ◌<◌, ◌^◌, ◌≤◌, List, ap, refl, sym, ◌∙◌, ◌≡◌, arith, get_or, length, length-set, set, get_or-set_same}
use Rattle.model.proofs.Prelude.{extent, saved, saved_special, saved_state, saved_unspilled, tab, both, shapes_of, Windows, made, puts, worst, r_a, reg, r_g, r_l, r_o}
use Rattle.model.proofs.Prelude.{sp, spilled, stored, with_special, refusing, Adm, saved_count, saved_global, saved_local, saved_packed, saved_twelve}
use Rattle.contexts.proofs.Prelude.{State, written_octa, written_range, written_range_by, written_run, puts_none, puts_run, puts_tab}
use Rattle.contexts.specs.ContextWork.{Ranged, StoresContext, left_general, left_special}

-- ---- a run that goes on

-- the next c octabytes of a run, n counted from the start of the whole
continued : (w v u : Windows) (o addr k m n c : ℕ) (f g : ℕ → ℕ) → u ≡ written_run v addr c g → n ≡ k + c → v ≡ puts both w o (tab 0 k f)
    → addr % 2 ^ 64 ≡ (o + 8 * k) % 2 ^ 64 → n ≤ m → worst (refusing (shapes_of w)) o m ≡ 0 → ((i : ℕ) → i < c → g i ≡ f (k + i))
    → u ≡ puts both w o (tab 0 n f)
continued w v u o addr k m n c f g h d e a l p q =
    h ∙ puts_run w o k m f p v e addr a g c (omega arith) q ∙ ap (λ (j : ℕ). puts both w o (tab 0 j f)) (sym d)

-- a range of registers as such a run
ranged_run : (v u : Windows) (addr from to n : ℕ) (general : List ℕ) → u ≡ written_range v addr from to general → min to 256 - from ≡ n
    → u ≡ written_run v addr n (λ i. get_or general (from + i) 0)
unfolding written_range_by
ranged_run v u addr from to n general e d = e ∙ rw d

-- ---- the context

-- the five stores one after another
module _ (s : State) (b : Adm s) (w w1 w2 w3 w4 w5 : Windows) (marker globals specials packed : ℕ) where
  stored_all : w1 ≡ written_range w (sp s r_o) 0 (sp s r_l) s.general
      → marker ≡ (sp s r_o + 8 * sp s r_l) % 2 ^ 64
      → w2 ≡ written_octa w1 marker (sp s r_l)
      → globals ≡ (sp s r_o + 8 * (sp s r_l + 1)) % 2 ^ 64
      → w3 ≡ written_range w2 globals (sp s r_g) 256 s.general
      → specials ≡ (sp s r_o + 8 * (sp s r_l + 257 - sp s r_g)) % 2 ^ 64
      → w4 ≡ written_run w3 specials 12 (λ i. sp s (saved_special i))
      → packed ≡ (sp s r_o + 8 * (sp s r_l + 269 - sp s r_g)) % 2 ^ 64
      → w5 ≡ written_octa w4 packed (sp s r_g * 2 ^ 56 + sp s r_a)
      → worst (refusing (shapes_of w)) (sp s r_o) (extent s) ≡ 0 → w5 ≡ puts both w (sp s r_o) (tab 0 (extent s) (saved s))
  stored_all c1 em e2 eg c3 es c4 ep e5 pass =
      let lg : sp s r_l ≤ sp s r_g = b.l_g in
      let gh : sp s r_g ≤ 255 = b.g_high in
      let f1 : w1 ≡ puts both w (sp s r_o) (tab 0 (sp s r_l) (saved s))
      = continued w w w1 (sp s r_o) (sp s r_o) 0 (extent s) (sp s r_l) (sp s r_l) (saved s) _ (ranged_run w w1 (sp s r_o) 0 (sp s r_l) (sp s r_l) s.general c1 (omega arith)) (omega arith) (sym (puts_none w (sp s r_o) (saved s))) (omega arith) (omega arith) pass locals in
      let f2 : w2 ≡ puts both w (sp s r_o) (tab 0 (sp s r_l + 1) (saved s))
      = single w1 w2 (sp s r_l) marker (sp s r_l) pass (omega arith) em f1 e2 (sym (saved_count s b)) in
      let f3 : w3 ≡ puts both w (sp s r_o) (tab 0 (sp s r_l + 257 - sp s r_g) (saved s))
      = continued w w2 w3 (sp s r_o) globals (sp s r_l + 1) (extent s) (sp s r_l + 257 - sp s r_g) (256 - sp s r_g) (saved s) _ (ranged_run w2 w3 globals (sp s r_g) 256 (256 - sp s r_g) s.general c3 (omega arith)) (omega arith) f2 (omega arith) (omega arith) pass globals_are in
      let f4 : w4 ≡ puts both w (sp s r_o) (tab 0 (sp s r_l + 269 - sp s r_g) (saved s))
      = continued w w3 w4 (sp s r_o) specials (sp s r_l + 257 - sp s r_g) (extent s) (sp s r_l + 269 - sp s r_g) 12 (saved s) _ c4 (omega arith) f3 (omega arith) (omega arith) pass (λ i h. sym (saved_twelve s b i h)) in
      single w4 w5 (sp s r_l + 269 - sp s r_g) packed (sp s r_g * 2 ^ 56 + sp s r_a) pass (omega arith) ep f4 e5 (sym (saved_packed s b))
      ∙ ap (λ (n : ℕ). puts both w (sp s r_o) (tab 0 n (saved s))) (omega arith)
    where
      locals : (i : ℕ) → i < sp s r_l → reg s (0 + i) ≡ saved s (0 + i)
      locals i h = let z : 0 + i ≡ i = omega arith in rw z (sym (saved_local s b i h))

      globals_are : (i : ℕ) → i < 256 - sp s r_g → reg s (sp s r_g + i) ≡ saved s (sp s r_l + 1 + i)
      globals_are i h =
          let z : sp s r_g + i - sp s r_g ≡ i = omega arith in
          sym (saved_global s b (sp s r_g + i) (omega arith) (omega arith)) ∙ rw z

      single : (v u : Windows) (k at x : ℕ) → worst (refusing (shapes_of w)) (sp s r_o) (extent s) ≡ 0 → k < extent s → at ≡ (sp s r_o + 8 * k) % 2 ^ 64
          → v ≡ puts both w (sp s r_o) (tab 0 k (saved s)) → u ≡ written_octa v at x → x ≡ saved s k → u ≡ puts both w (sp s r_o) (tab 0 (k + 1) (saved s))
      single v u k at x p h e f d q = d ∙ ap (λ (z : Windows). written_octa z at x) f ∙ puts_tab w (sp s r_o) (extent s) p k at h e (saved s) x q

pub context_stored : (general special : List ℕ) → Ranged special → (w w1 w2 w3 w4 w5 : Windows) (marker globals specials packed : ℕ)
    → w1 ≡ written_range w (get_or special r_o 0) 0 (get_or special r_l 0) general
    → marker ≡ (get_or special r_o 0 + 8 * get_or special r_l 0) % 2 ^ 64
    → w2 ≡ written_octa w1 marker (get_or special r_l 0)
    → globals ≡ (get_or special r_o 0 + 8 * (get_or special r_l 0 + 1)) % 2 ^ 64
    → w3 ≡ written_range w2 globals (get_or special r_g 0) 256 general
    → specials ≡ (get_or special r_o 0 + 8 * (get_or special r_l 0 + 257 - get_or special r_g 0)) % 2 ^ 64
    → w4 ≡ written_run w3 specials 12 (λ i. get_or special (saved_special i) 0)
    → packed ≡ (get_or special r_o 0 + 8 * (get_or special r_l 0 + 269 - get_or special r_g 0)) % 2 ^ 64
    → w5 ≡ written_octa w4 packed (get_or special r_g 0 * 2 ^ 56 + get_or special r_a 0)
    → StoresContext general special w w5
unfolding saved
context_stored general special r w w1 w2 w3 w4 w5 marker globals specials packed c1 em e2 eg c3 es c4 ep e5 =
    record {
      stores = λ pc halt marks mask pass. stored_all (made general special pc halt 0 0)
          (record { g_low = r.g_low; g_high = r.g_high; l_g = r.l_g; a_high = r.a_high; marks_high = omega arith; mask_in' = refl })
          w w1 w2 w3 w4 w5 marker globals specials packed c1 em e2 eg c3 es c4 ep e5 pass;
    }

-- ---- the registers after it

pub departed : (general special general' special' : List ℕ) (x : ℕ) → length special ≡ 32 → general' ≡ left_general general special x
    → special' ≡ left_special special → (pc halt marks mask : ℕ) → made general' special' pc halt marks mask ≡ saved_state (made general special pc halt marks mask) x
unfolding saved_state saved_unspilled spilled with_special stored left_general left_special
departed general special general' special' x len eg es pc halt marks mask =
    let new : ℕ = (get_or special r_o 0 + 8 * (get_or special r_l 0 + 270 - get_or special r_g 0)) % 2 ^ 64 in
    let same : get_or (set (set special r_l 0) r_o new) r_o 0 ≡ new = get_or-set_same (set special r_l 0) r_o new 0 (omega (arith, length-set special r_l 0)) in
    cc
