-- Writes of a state are replacements of its image's octabytes; what 19 and 20 leave is such writes.
use Rattle.model.proofs.Prelude.{suc, zero, ℕ, ◌*◌, ◌+◌, ◌<◌, Bool, false, true, List, [], ◌++◌, ◌∷◌, ◌≢◌, ap, refl, sym, ◌∙◌, ◌≡◌, arith, eqb, get_or, length}
use Rattle.model.proofs.Prelude.{length-set, set, ext_get_or, get_or-set_other, get_or-set_same, set-append_left, eqb-false, eqb-true, Interrupted, bytes_of, written}
use Rattle.model.proofs.Prelude.{following, halted, reg, r_j, Sized, sp, stored, with_special, interrupted, on_both, written_nil}
use Rattle.claims.proofs.Prelude.{State, flat, image_as, image_of, is_old, old_image_of}
use Rattle.claims.specs.CallsLeave.{replaced, at_special, at_halt, interrupt_octas}
use Rattle.image.proofs.Codec.{numbers}

-- ---- writes of a state

flat_set : (vs : List ℕ) (k v : ℕ) → flat (set vs k v) ≡ written (flat vs) (8 * k) (bytes_of v)
unfolding flat written bytes_of
flat_set [] k v = refl
flat_set (x ∷ vs) zero v = ap (λ (r : List ℕ). bytes_of v ++ r) (sym (written_nil (flat vs) 0))
flat_set (x ∷ vs) (suc k) v =
    let e : 8 * suc k ≡ suc (suc (suc (suc (suc (suc (suc (suc (8 * k)))))))) = omega arith in
    rw e (ap (λ (r : List ℕ). bytes_of x ++ r) (flat_set vs k v))

set_append_right : (us vs : List ℕ) (n k v : ℕ) → length us ≡ n → set (us ++ vs) (n + k) v ≡ us ++ set vs k v
set_append_right [] vs n k v e = ap (λ (i : ℕ). set vs i v) (omega arith)
set_append_right (u ∷ us) vs zero k v e = absurd (omega arith)
set_append_right (u ∷ us) vs (suc n) k v e =
    let f : suc n + k ≡ suc (n + k) = omega arith in
    rw f (ap (λ (r : List ℕ). u ∷ r) (set_append_right us vs n k v (omega arith)))

-- the numbers of a state, with its mask, m, or without
module _ (s : State) (z : Sized s) (m : List ℕ) where
  stored_numbers : (k v : ℕ) → k < 256 → flat (numbers (stored s k v) m) ≡ written (flat (numbers s m)) (8 * k) (bytes_of v)
  unfolding stored
  stored_numbers k v h = ap flat (sym (set-append_left s.general _ k v (omega (arith, z.generals)))) ∙ flat_set (numbers s m) k v

  special_numbers : (k v : ℕ) → k < 32 → flat (numbers (with_special s k v) m) ≡ written (flat (numbers s m)) (8 * at_special k) (bytes_of v)
  unfolding with_special
  special_numbers k v h =
      ap (λ (r : List ℕ). flat (s.general ++ r)) (sym (set-append_left s.special _ k v (omega (arith, z.specials))))
      ∙ ap flat (sym (set_append_right s.general _ 256 k v z.generals)) ∙ flat_set (numbers s m) (256 + k) v

  halted_numbers : flat (numbers (halted s) m) ≡ written (flat (numbers s m)) (8 * at_halt) (bytes_of 1)
  unfolding halted
  halted_numbers =
      ap (λ (r : List ℕ). flat (s.general ++ r)) (sym (set_append_right s.special (s.pc ∷ s.halt ∷ s.marks ∷ m) 32 1 1 z.specials))
      ∙ ap flat (sym (set_append_right s.general _ 256 33 1 z.generals)) ∙ flat_set (numbers s m) at_halt 1

-- an image of either length: what is written in both is written in it
module _ (l : List ℕ) (s t : State) (o : ℕ) (bs : List ℕ) where
  in_both : t.mask ≡ s.mask → ((m : List ℕ) → flat (numbers t m) ≡ written (flat (numbers s m)) o bs) → image_as l t ≡ written (image_as l s) o bs
  unfolding image_as image_of old_image_of
  in_both e f =
      on_both (λ (a b : List ℕ). a ≡ written b o bs) (is_old l) (λ q. f [])
      (λ q. ap (λ (k : ℕ). flat (numbers t (k ∷ []))) e ∙ f (s.mask ∷ []))

module _ (l : List ℕ) (s : State) (z : Sized s) where
  stored_image : (k v : ℕ) → k < 256 → image_as l (stored s k v) ≡ written (image_as l s) (8 * k) (bytes_of v)
  stored_image k v h = in_both l s (stored s k v) (8 * k) (bytes_of v) (unfold stored in refl) (λ m. stored_numbers s z m k v h)

  special_image : (k v : ℕ) → k < 32 → image_as l (with_special s k v) ≡ written (image_as l s) (8 * at_special k) (bytes_of v)
  special_image k v h = in_both l s (with_special s k v) (8 * at_special k) (bytes_of v) (unfold with_special in refl) (λ m. special_numbers s z m k v h)

  pub halted_image : image_as l (halted s) ≡ written (image_as l s) (8 * at_halt) (bytes_of 1)
  halted_image = in_both l s (halted s) (8 * at_halt) (bytes_of 1) (unfold halted in refl) (λ m. halted_numbers s z m)

module _ (s : State) (z : Sized s) where
  stored_sized : (k v : ℕ) → Sized (stored s k v)
  unfolding stored
  stored_sized k v = record { generals = length-set s.general k v ∙ z.generals; specials = z.specials }

  pub special_sized : (k v : ℕ) → Sized (with_special s k v)
  unfolding with_special
  special_sized k v = record { generals = z.generals; specials = length-set s.special k v ∙ z.specials }

-- ---- what 19 and 20 leave

-- a list that is s but for place j
at_set : (s : List ℕ) (j v k d : ℕ) → k < length s → (k ≡ j → d ≡ v) → (k ≢ j → d ≡ get_or s k 0) → d ≡ get_or (set s j v) k 0
at_set s j v k d h f g = go (eqb k j) refl
  where
    go : (b : Bool) → eqb k j ≡ b → d ≡ get_or (set s j v) k 0
    go true e = f (eqb-true k j e) ∙ sym (ap (λ (i : ℕ). get_or (set s i v) k 0) (sym (eqb-true k j e)) ∙ get_or-set_same s k v 0 h)
    go false e = g (eqb-false k j e) ∙ sym (get_or-set_other s j k v 0 (eqb-false k j e))

module _ (l : List ℕ) (s : State) (zs : Sized s) (b w x y z word u v : ℕ) where
  -- the writes one after another
  abbrev with1 : State
  with1 = stored s 255 (sp s r_j)

  abbrev with2 : State
  with2 = with_special with1 b (reg s 255)

  abbrev with3 : State
  with3 = with_special with2 w (following s)

  abbrev with4 : State
  with4 = with_special with3 x word

  abbrev with5 : State
  with5 = with_special with4 y u

  abbrev with6 : State
  with6 = with_special with5 z v

  interrupted_writes : halted (interrupted s b w x y z word u v) ≡ halted with6
  unfolding interrupted stored with_special
  interrupted_writes = refl

  interrupted_image : b < 32 → w < 32 → x < 32 → y < 32 → z < 32 → image_as l (halted with6) ≡ replaced (image_as l s) (interrupt_octas s b w x y z word u v)
  unfolding replaced
  interrupted_image hb hw hx hy hz =
      let z1 : Sized with1 = stored_sized s zs 255 (sp s r_j) in
      let z2 : Sized with2 = special_sized with1 z1 b (reg s 255) in
      let z3 : Sized with3 = special_sized with2 z2 w (following s) in
      let z4 : Sized with4 = special_sized with3 z3 x word in
      let z5 : Sized with5 = special_sized with4 z4 y u in
      let z6 : Sized with6 = special_sized with5 z5 z v in
      rw (
        halted_image l with6 z6,
        special_image l with5 z5 z v hz,
        special_image l with4 z4 y u hy,
        special_image l with3 z3 x word hx,
        special_image l with2 z2 w (following s) hw,
        special_image l with1 z1 b (reg s 255) hb,
        stored_image l s zs 255 (sp s r_j) (omega arith),
      )

  interrupted_is : (t : State) → Sized t → Interrupted s t b w x y z word u v → t ≡ halted (interrupted s b w x y z word u v)
  unfolding halted interrupted
  interrupted_is t zt h = λ i. record { general = general_is i; special = special_is i; pc = h.pc_unmoved i; halt = h.halt_one i; marks = h.marks_same i; mask = h.mask_same i }
    where
      general_is : t.general ≡ set s.general 255 (sp s r_j)
      general_is = ext_get_or 0 t.general (set s.general 255 (sp s r_j)) (zt.generals ∙ sym (length-set s.general 255 (sp s r_j) ∙ zs.generals)) (λ k less.
          at_set s.general 255 (sp s r_j) k (reg t k) (omega (arith, zs.generals, zt.generals)) (λ e. ap (reg t) e ∙ h.return) (λ n. h.other_general k n))

      special_is : t.special ≡ set (set (set (set (set s.special b (reg s 255)) w (following s)) x word) y u) z v
      special_is =
          let l1 : List ℕ = set s.special b (reg s 255) in
          let l2 : List ℕ = set l1 w (following s) in
          let l3 : List ℕ = set l2 x word in
          let l4 : List ℕ = set l3 y u in
          let n1 : length l1 ≡ 32 = length-set s.special b (reg s 255) ∙ zs.specials in
          let n2 : length l2 ≡ 32 = length-set l1 w (following s) ∙ n1 in
          let n3 : length l3 ≡ 32 = length-set l2 x word ∙ n2 in
          let n4 : length l4 ≡ 32 = length-set l3 y u ∙ n3 in
          ext_get_or 0 t.special (set l4 z v) (zt.specials ∙ sym (length-set l4 z v ∙ n4)) (λ k less.
          let m : k < 32 = omega (arith, zt.specials) in
          at_set l4 z v k (sp t k) (omega arith) (λ e. ap (sp t) e ∙ h.second) (λ nz.
          at_set l3 y u k (sp t k) (omega arith) (λ e. ap (sp t) e ∙ h.first) (λ ny.
          at_set l2 x word k (sp t k) (omega arith) (λ e. ap (sp t) e ∙ h.instruction) (λ nx.
          at_set l1 w (following s) k (sp t k) (omega arith) (λ e. ap (sp t) e ∙ h.after) (λ nw.
          at_set s.special b (reg s 255) k (sp t k) (omega (arith, zs.specials)) (λ e. ap (sp t) e ∙ h.bootstrap) (λ nb. h.other_special k nb nw nx ny nz))))))

  pub interrupt_image : (t : State) → Sized t → Interrupted s t b w x y z word u v → b < 32 → w < 32 → x < 32 → y < 32 → z < 32
      → image_as l t ≡ replaced (image_as l s) (interrupt_octas s b w x y z word u v)
  interrupt_image t zt h hb hw hx hy hz = ap (image_as l) (interrupted_is t zt h ∙ interrupted_writes) ∙ interrupted_image hb hw hx hy hz

-- a special register written first, from which an interrupt reads nothing
pub after_special : (l : List ℕ) (s : State) → Sized s → (k a : ℕ) → k < 32 → r_j ≢ k → (b w x y z word u v : ℕ)
    → replaced (image_as l (with_special s k a)) (interrupt_octas (with_special s k a) b w x y z word u v)
    ≡ replaced (image_as l s) ((at_special k, sp (with_special s k a) k) ∷ interrupt_octas s b w x y z word u v)
unfolding replaced with_special
after_special l s zs k a h n b w x y z word u v =
    ap (λ (j : ℕ). replaced (image_as l (with_special s k a)) ((255, j) ∷ (at_special b, reg s 255) ∷ (at_special w, following s) ∷ (at_special x, word) ∷ (at_special y, u) ∷ (at_special z, v) ∷ (at_halt, 1) ∷ []))
    (get_or-set_other s.special k r_j a 0 n)
    ∙ ap (λ (c : List ℕ). replaced c (interrupt_octas s b w x y z word u v))
    (special_image l s zs k a h ∙ ap (λ (c : ℕ). written (image_as l s) (8 * at_special k) (bytes_of c)) (sym (get_or-set_same s.special k a 0 (omega (arith, zs.specials)))))
