-- What `load_rest`, `load_parts` and `store_parts` come to, from what their calls leave.
use Rattle.model.proofs.Prelude.{ℕ, ◌*◌, ◌+◌, ◌-◌, ◌/◌, ◌<◌, ◌≤◌, true, append_assoc, List, [], ◌++◌, ◌∷◌, ⊎_elim, ap, refl, sym, ◌∙◌, ◌≡◌, dec_lt, arith, get_or}
use Rattle.model.proofs.Prelude.{length, length-append, get_or_eq_default, take, lt-leb, image_length, old_image_length, part, value_of, written, made, Sized}
use Rattle.model.proofs.Prelude.{written_append, length_written, part_cong}
use Rattle.image.proofs.Prelude.{State, flat, loaded_octas, octas, stored_octas, flat_append, length_flat, loaded_fits, stored_fits, written_all}
use Rattle.image.specs.Image.{image_of, old_image_of, state_of, is_image, image_as}
use Rattle.image.proofs.Coded.{either, at_least, as_new, as_old}

-- ---- out of an image

-- three octabytes, one by one, and one
three_octas : (l : List ℕ) (o : ℕ) → octas l o 3 ≡ value_of 0 (part l o 8) ∷ value_of 0 (part l (o + 8) 8) ∷ value_of 0 (part l (o + 8 + 8) 8) ∷ []
unfolding octas
three_octas l o = refl

one_octa : (l : List ℕ) (o : ℕ) → octas l o 1 ≡ value_of 0 (part l o 8) ∷ []
unfolding octas
one_octa l o = refl

no_octa : (o : ℕ) → value_of 0 (part [] o 8) ≡ 0
unfolding value_of part
no_octa o = refl

-- beyond its end a list is 0
pub value_beyond : (l : List ℕ) (o : ℕ) → length l ≤ o → value_of 0 (part l o 8) ≡ 0
value_beyond l o h = ap (value_of 0) (part_cong 8 l [] o (λ j a b. get_or_eq_default l 0 (omega arith))) ∙ no_octa o

loaded_not : (l : List ℕ) (o : ℕ) (vs : List ℕ) → length l < o + 8 * length vs → loaded_octas l o vs ≡ vs
unfolding loaded_octas
loaded_not l o vs h = rw (lt-leb (o + 8 * length vs) (length l) h)

-- where an old image has no mask, the 0 that stands there is left
mask_loaded : (l : List ℕ) → is_image l ≡ true → loaded_octas l 2328 (0 ∷ []) ≡ value_of 0 (part l 2328 8) ∷ []
mask_loaded l e =
    ⊎_elim
    (λ n. loaded_fits l 2328 (0 ∷ []) (omega arith) ∙ one_octa l 2328)
    (λ n. loaded_not l 2328 (0 ∷ []) (omega arith) ∙ ap (λ (v : ℕ). v ∷ []) (sym (value_beyond l 2328 (omega arith))))
    (either l e)

-- s, r and m are what is loaded of an image from three of its places
pub rest_loaded : (l s₀ s r₀ r m : List ℕ) → is_image l ≡ true → length s₀ ≡ 32 → length r₀ ≡ 3
    → s ≡ loaded_octas l 2048 s₀ → r ≡ loaded_octas l 2304 r₀ → m ≡ loaded_octas l 2328 (0 ∷ [])
    → made (state_of l).general s (get_or r 0 0) (get_or r 1 0) (get_or r 2 0) (get_or m 0 0) ≡ state_of l
unfolding state_of
rest_loaded l s₀ s r₀ r m e ns nr es er em =
    let n : old_image_length ≤ length l = at_least l e in
    let fs : s ≡ octas l 2048 32 = es ∙ loaded_fits l 2048 s₀ (omega arith) ∙ ap (octas l 2048) ns in
    let fr : r ≡ value_of 0 (part l 2304 8) ∷ value_of 0 (part l 2312 8) ∷ value_of 0 (part l 2320 8) ∷ []
    = er ∙ loaded_fits l 2304 r₀ (omega arith) ∙ ap (octas l 2304) nr ∙ three_octas l 2304 in
    let fm : m ≡ value_of 0 (part l 2328 8) ∷ [] = em ∙ mask_loaded l e in
    λ i. made (octas l 0 256) (fs i) (get_or (fr i) 0 0) (get_or (fr i) 1 0) (get_or (fr i) 2 0) (get_or (fm i) 0 0)

-- g is what is loaded from the fourth: all general registers
pub general_loaded : (l g₀ g : List ℕ) → is_image l ≡ true → length g₀ ≡ 256 → g ≡ loaded_octas l 0 g₀ → g ≡ (state_of l).general
unfolding state_of
general_loaded l g₀ g e ng eg = let n : old_image_length ≤ length l = at_least l e in eg ∙ loaded_fits l 0 g₀ (omega arith) ∙ ap (octas l 0) ng

-- both together
pub state_loaded : (l g₀ g s : List ℕ) (pc halt marks mask : ℕ) → is_image l ≡ true → length g₀ ≡ 256 → g ≡ loaded_octas l 0 g₀
    → made (state_of l).general s pc halt marks mask ≡ state_of l → made g s pc halt marks mask ≡ state_of l
state_loaded l g₀ g s pc halt marks mask e ng eg d = ap (λ (gs : List ℕ). made gs s pc halt marks mask) (general_loaded l g₀ g e ng eg) ∙ d

-- ---- into an image

-- the numbers of a state in the image's order: up to the marks, and then the mask or nothing
abbrev pub numbers : State → List ℕ → List ℕ
numbers s m = s.general ++ (s.special ++ (s.pc ∷ s.halt ∷ s.marks ∷ m))

pub length_numbers : (s : State) (m : List ℕ) → Sized s → length (numbers s m) ≡ 291 + length m
length_numbers s m z = simp length-append (omega (arith, z.generals, z.specials))

pub length_image : (s : State) → Sized s → length (image_of s) ≡ image_length
unfolding image_of
length_image s z = length_flat (numbers s (s.mask ∷ [])) ∙ omega (arith, length_numbers s (s.mask ∷ []) z)

pub length_old : (s : State) → Sized s → length (old_image_of s) ≡ old_image_length
unfolding old_image_of
length_old s z = length_flat (numbers s []) ∙ omega (arith, length_numbers s [] z)

-- three parts one after another
three : (l us vs ws : List ℕ) → length us ≡ 256 → length vs ≡ 32
    → written (written (written l 0 (flat us)) 2048 (flat vs)) 2304 (flat ws) ≡ written l 0 (flat (us ++ (vs ++ ws)))
three l us vs ws nu nv =
    let a : length (flat us) ≡ 2048 = omega (arith, length_flat us) in
    let b : length (flat us ++ flat vs) ≡ 2304 = length-append (flat us) (flat vs) ∙ omega (arith, length_flat vs) in
    ap (λ (k : List ℕ). written k 2304 (flat ws)) (written_append l 0 (flat us) (flat vs) 2048 (omega arith))
    ∙ written_append l 0 (flat us ++ flat vs) (flat ws) 2304 (omega arith)
    ∙ ap (λ (k : List ℕ). written l 0 k) (simp (flat_append, append_assoc))

-- up to the marks
marks_stored : (l l₁ l₂ l₃ : List ℕ) (s : State) → old_image_length ≤ length l → Sized s
    → l₁ ≡ stored_octas l 0 s.general → l₂ ≡ stored_octas l₁ 2048 s.special → l₃ ≡ stored_octas l₂ 2304 (s.pc ∷ s.halt ∷ s.marks ∷ [])
    → l₃ ≡ written l 0 (flat (numbers s []))
marks_stored l l₁ l₂ l₃ s n z d₁ d₂ d₃ =
    let e₁ : l₁ ≡ written l 0 (flat s.general) = d₁ ∙ stored_fits l 0 s.general (omega (arith, z.generals)) in
    let n₁ : length l₁ ≡ length l = ap length e₁ ∙ length_written l 0 (flat s.general) in
    let e₂ : l₂ ≡ written l₁ 2048 (flat s.special) = d₂ ∙ stored_fits l₁ 2048 s.special (omega (arith, z.specials)) in
    let n₂ : length l₂ ≡ length l = ap length e₂ ∙ length_written l₁ 2048 (flat s.special) ∙ n₁ in
    let e₃ : l₃ ≡ written l₂ 2304 (flat (s.pc ∷ s.halt ∷ s.marks ∷ [])) = d₃ ∙ stored_fits l₂ 2304 (s.pc ∷ s.halt ∷ s.marks ∷ []) (omega arith) in
    rw (e₃, e₂, e₁) (three l s.general s.special (s.pc ∷ s.halt ∷ s.marks ∷ []) z.generals z.specials)

stored_not : (l : List ℕ) (o : ℕ) (vs : List ℕ) → length l < o + 8 * length vs → stored_octas l o vs ≡ l
unfolding stored_octas
stored_not l o vs h = rw (lt-leb (o + 8 * length vs) (length l) h)

four_flat : (a b c d : ℕ) → flat (a ∷ b ∷ c ∷ []) ++ flat (d ∷ []) ≡ flat (a ∷ b ∷ c ∷ d ∷ [])
four_flat a b c d = sym (flat_append (a ∷ b ∷ c ∷ []) (d ∷ []))

-- as many of the four numbers as an image has room for
pub numbers_stored : (l : List ℕ) (n a b c d : ℕ) → old_image_length ≤ length l → length l ≤ image_length → n ≡ (length l - 2304) / 8
    → stored_octas l 2304 (take n (a ∷ b ∷ c ∷ d ∷ [])) ≡ stored_octas (stored_octas l 2304 (a ∷ b ∷ c ∷ [])) 2328 (d ∷ [])
numbers_stored l n a b c d h k e = at (dec_lt (length l) image_length)
  where
    three_in : stored_octas l 2304 (a ∷ b ∷ c ∷ []) ≡ written l 2304 (flat (a ∷ b ∷ c ∷ []))
    three_in = stored_fits l 2304 (a ∷ b ∷ c ∷ []) (omega arith)

    long : length (stored_octas l 2304 (a ∷ b ∷ c ∷ [])) ≡ length l
    long = ap length three_in ∙ length_written l 2304 (flat (a ∷ b ∷ c ∷ []))

    at : Dec (length l < image_length) → stored_octas l 2304 (take n (a ∷ b ∷ c ∷ d ∷ [])) ≡ stored_octas (stored_octas l 2304 (a ∷ b ∷ c ∷ [])) 2328 (d ∷ [])
    at (yes p) =
        let q : n ≡ 3 = omega arith in
        ap (λ (i : ℕ). stored_octas l 2304 (take i (a ∷ b ∷ c ∷ d ∷ []))) q ∙ sym (stored_not (stored_octas l 2304 (a ∷ b ∷ c ∷ [])) 2328 (d ∷ []) (omega (arith, long)))
    at (no p) =
        let q : n ≡ 4 = omega arith in
        ap (λ (i : ℕ). stored_octas l 2304 (take i (a ∷ b ∷ c ∷ d ∷ []))) q
        ∙ stored_fits l 2304 (a ∷ b ∷ c ∷ d ∷ []) (omega arith)
        ∙ ap (written l 2304) (sym (four_flat a b c d))
        ∙ sym (written_append l 2304 (flat (a ∷ b ∷ c ∷ [])) (flat (d ∷ [])) 2328 (omega (arith, length_flat (a ∷ b ∷ c ∷ []))))
        ∙ ap (λ (m : List ℕ). written m 2328 (flat (d ∷ []))) (sym three_in)
        ∙ sym (stored_fits (stored_octas l 2304 (a ∷ b ∷ c ∷ [])) 2328 (d ∷ []) (omega (arith, long)))

-- the mask after the marks
mask_stored : (l : List ℕ) (s : State) → Sized s → written (written l 0 (flat (numbers s []))) 2328 (flat (s.mask ∷ [])) ≡ written l 0 (flat (numbers s (s.mask ∷ [])))
mask_stored l s z =
    written_append l 0 (flat (numbers s [])) (flat (s.mask ∷ [])) 2328 (omega (arith, length_flat (numbers s []), length_numbers s [] z))
    ∙ ap (written l 0) (sym (flat_append (numbers s []) (s.mask ∷ [])) ∙ ap flat (simp append_assoc))

whole : (l : List ℕ) (s : State) → Sized s → length l ≡ image_length → written l 0 (flat (numbers s (s.mask ∷ []))) ≡ image_of s
unfolding image_of
whole l s z n = written_all l (image_of s) (length_image s z ∙ sym n)

without : (l : List ℕ) (s : State) → Sized s → length l ≡ old_image_length → written l 0 (flat (numbers s [])) ≡ old_image_of s
unfolding old_image_of
without l s z n = written_all l (old_image_of s) (length_old s z ∙ sym n)

pub image_stored : (l l₁ l₂ l₃ l₄ : List ℕ) (s : State) → is_image l ≡ true → Sized s
    → l₁ ≡ stored_octas l 0 s.general → l₂ ≡ stored_octas l₁ 2048 s.special → l₃ ≡ stored_octas l₂ 2304 (s.pc ∷ s.halt ∷ s.marks ∷ [])
    → l₄ ≡ stored_octas l₃ 2328 (s.mask ∷ []) → l₄ ≡ image_as l s
image_stored l l₁ l₂ l₃ l₄ s e z d₁ d₂ d₃ d₄ =
    let e₃ : l₃ ≡ written l 0 (flat (numbers s [])) = marks_stored l l₁ l₂ l₃ s (at_least l e) z d₁ d₂ d₃ in
    let n₃ : length l₃ ≡ length l = ap length e₃ ∙ length_written l 0 (flat (numbers s [])) in
    ⊎_elim
    (λ n. d₄ ∙ stored_fits l₃ 2328 (s.mask ∷ []) (omega arith)
    ∙ ap (λ (k : List ℕ). written k 2328 (flat (s.mask ∷ []))) e₃ ∙ mask_stored l s z ∙ whole l s z n ∙ sym (as_new l s n))
    (λ n. d₄ ∙ stored_not l₃ 2328 (s.mask ∷ []) (omega arith) ∙ e₃ ∙ without l s z n ∙ sym (as_old l s n))
    (either l e)
