-- Registers stay octabytes and windows stay bytes: laws of each state builder and of what is stored. Of items: ItemWords.
use Rattle.model.proofs.Logic.{max, min, suc, zero, ℕ, ◌%◌, ◌*◌, ◌+◌, ◌-◌, ◌<◌, ◌^◌, ◌≤◌, ◌&&◌, List, [], ◌∷◌, inl, inr, ◌⊎◌, ap, subst, sym, ◌∙◌, ◌≡◌}
use Rattle.model.proofs.Logic.{ℕ_discrete, mul_assoc, pow-succ', arith, bit_or, or_lt, eqb, leb, ltb, get_or, length, length-set, get_or_eq_default, set}
use Rattle.model.proofs.Logic.{get_or-set_other, get_or-set_same, ltb-true}
use Rattle.model.specs.Fill.{over}
use Rattle.model.specs.Octa.{part, written, value_of, bytes_of}
use Rattle.model.specs.Registers.{r_j, r_o, r_s, r_g, r_l, r_a, r_r, r_p, r_z, sp, reg, following, Words, goes, halted, with_special, cleared, claim_local, is_marginal, stored, set_register, put_locals, put_globals, spilled}
use Rattle.model.specs.Memory.{shape_of, offset, has, octa_bytes, write_octa, Windows, octa_at, put_octa, both}
use Rattle.model.specs.Plan.{Plan, answer, read, Outcome, perform, clear, look, looks, puts}
use Rattle.model.specs.Frames.{slid, slide, pushed_rule, pushed, count_of, last_output, restored, unslide, popped}
use Rattle.model.specs.Contexts.{extent, context_address, saved_unspilled, saved_state, unsaved_general, unsaved_special, unsaved_unspilled, unsaved}
use Rattle.model.specs.Trips.{interrupted, added, with_added}
use Rattle.model.specs.Invariants.{Bytes}
use Rattle.model.specs.declared.State.{State}
use Rattle.model.proofs.Bools.{on, and_right}
use Rattle.model.proofs.Fill.{length_over, over_in, over_below, over_above, lt_or_le}
use Rattle.model.proofs.AdmissibleKept.{added_byte}

-- ---- lists of numbers below a bound

pub record Below (b : ℕ) (l : List ℕ) : Type 0 where
  pub at : (k : ℕ) → get_or l k 0 < b

set_below : (b : ℕ) (l : List ℕ) (i v : ℕ) → Below b l → v < b → Below b (set l i v)
set_below b l i v h p = record { at = λ k. go k (ℕ_discrete k i) (lt_or_le k (length l)) }
  where
    go : (k : ℕ) → Dec (k ≡ i) → (k < length l) ⊎ (length l ≤ k) → get_or (set l i v) k 0 < b
    go k (yes e) (inl m) = subst (λ (n : ℕ). n < b) (sym (ap (λ (j : ℕ). get_or (set l i v) j 0) e ∙ get_or-set_same l i v 0 (omega arith))) p
    go k (yes e) (inr m) = subst (λ (n : ℕ). n < b) (sym (get_or_eq_default (set l i v) 0 (omega (arith, length-set l i v)))) (omega arith)
    go k (no n) m = subst (λ (n : ℕ). n < b) (sym (get_or-set_other l i k v 0 n)) (h.at k)

over_bound : (b : ℕ) (f : ℕ → ℕ) (x y : ℕ) (l : List ℕ) → 0 < b → Below b l → ((k : ℕ) → f k < b) → Below b (over f x y l)
over_bound b f x y l z h p = record { at = λ k. go k (lt_or_le k (length l)) (lt_or_le k x) (lt_or_le k y) }
  where
    to : (k n : ℕ) → get_or (over f x y l) k 0 ≡ n → n < b → get_or (over f x y l) k 0 < b
    to k n e q = subst (λ (m : ℕ). m < b) (sym e) q

    go : (k : ℕ) → (k < length l) ⊎ (length l ≤ k) → (k < x) ⊎ (x ≤ k) → (k < y) ⊎ (y ≤ k) → get_or (over f x y l) k 0 < b
    go k (inr m) p q = to k 0 (get_or_eq_default (over f x y l) 0 (omega (arith, length_over f x y l))) z
    go k (inl m) (inl lo) q = to k (get_or l k 0) (over_below f x y l k lo m) (h.at k)
    go k (inl m) (inr hi) (inl lo) = to k (f k) (over_in f x y l k hi lo m) (p k)
    go k (inl m) (inr hi) (inr up) = to k (get_or l k 0) (over_above f x y l k up m) (h.at k)

cons_below : (b x : ℕ) (xs : List ℕ) → x < b → Below b xs → Below b (x ∷ xs)
cons_below b x xs p h = record { at = at }
  where
    at : (k : ℕ) → get_or (x ∷ xs) k 0 < b
    at zero = p
    at (suc k) = h.at k

tail_below : (b x : ℕ) (xs : List ℕ) → Below b (x ∷ xs) → Below b xs
tail_below b x xs h = record { at = λ k. h.at (suc k) }

-- ---- builders

abbrev pub Word : ℕ → Type 0
Word n = n < 2 ^ 64

pub words_by : (t : State) → Below (2 ^ 64) t.general → Below (2 ^ 64) t.special → Word t.pc → Word t.halt → Word t.marks → Word t.mask → Words t
words_by t g s p h m k = record { general_word = g.at; special_word = s.at; pc_word = p; halt_word = h; marks_word = m; mask_word = k }

generals : (s : State) → Words s → Below (2 ^ 64) s.general
generals s h = record { at = h.general_word }

specials : (s : State) → Words s → Below (2 ^ 64) s.special
specials s h = record { at = h.special_word }

pub goes_words : (s : State) (a : ℕ) → Word a → Words s → Words (goes s a)
unfolding goes
goes_words s a b h = words_by (goes s a) (generals s h) (specials s h) b h.halt_word h.marks_word h.mask_word

pub halted_words : (s : State) → Words s → Words (halted s)
unfolding halted
halted_words s h = words_by (halted s) (generals s h) (specials s h) h.pc_word (omega arith) h.marks_word h.mask_word

pub special_words : (s : State) (k v : ℕ) → Word v → Words s → Words (with_special s k v)
unfolding with_special
special_words s k v b h = words_by (with_special s k v) (generals s h) (set_below (2 ^ 64) s.special k v (specials s h) b) h.pc_word h.halt_word h.marks_word h.mask_word

spilled_words : (s : State) → Words s → Words (spilled s)
unfolding spilled
spilled_words s h = special_words s r_s (sp s r_o) (h.special_word r_o) h

stored_words : (s : State) (x v : ℕ) → Word v → Words s → Words (stored s x v)
unfolding stored
stored_words s x v b h = words_by (stored s x v) (set_below (2 ^ 64) s.general x v (generals s h) b) (specials s h) h.pc_word h.halt_word h.marks_word h.mask_word

cleared_words : (s : State) (a b : ℕ) → Words s → Words (cleared s a b)
unfolding cleared
cleared_words s a b h =
    words_by (cleared s a b) (over_bound (2 ^ 64) (λ k. 0) a b s.general (omega arith) (generals s h) (λ k. omega arith)) (specials s h) h.pc_word h.halt_word h.marks_word h.mask_word

-- rL after a claim is at most rG
pub claim_words : (s : State) (x : ℕ) → Words s → Words (claim_local s x)
unfolding claim_local
claim_words s x h =
    on Words (is_marginal s x)
    (λ e. let l : x < sp s r_g = ltb-true _ _ (and_right (leb (sp s r_l) x) _ e) in
    let g : sp s r_g < 2 ^ 64 = h.special_word r_g in
    special_words (cleared s (sp s r_l) (x + 1)) r_l (x + 1) (omega arith) (cleared_words s (sp s r_l) (x + 1) h))
    (λ e. h)

pub set_words : (s : State) (x v : ℕ) → Word v → Words s → Words (set_register s x v)
unfolding set_register
set_words s x v b h = stored_words _ x v b (claim_words s x h)

pub locals_words : (s : State) (v : ℕ) → Words s → Words (put_locals s v)
unfolding put_locals
locals_words s v h = let l : sp s r_l < 2 ^ 64 = h.special_word r_l in
    special_words _ r_l (min v (sp s r_l)) (omega arith) (cleared_words s (min v (sp s r_l)) (sp s r_l) h)

pub globals_words : (s : State) (v : ℕ) → v ≤ 255 → Words s → Words (put_globals s v)
unfolding put_globals
globals_words s v b h = special_words _ r_g v (omega arith) (cleared_words s (min v (sp s r_g)) (max v (sp s r_g)) h)

slide_words : (s : State) (n : ℕ) → Words s → Words (slide s n)
unfolding slide
slide_words s n h = let l : sp s r_l < 2 ^ 64 = h.special_word r_l in
    words_by (slide s n)
    (over_bound (2 ^ 64) (slid s n) 0 (sp s r_g) s.general (omega arith) (generals s h)
    (λ k. unfold slid in (on Word (ltb k (sp s r_l - n)) (λ e. let g : reg s (n + k) < 2 ^ 64 = h.general_word (n + k) in omega arith) (λ e. omega arith))))
    (set_below (2 ^ 64) _ r_o ((sp s r_o + 8 * n) % 2 ^ 64) (set_below (2 ^ 64) s.special r_l (sp s r_l - n) (specials s h) (omega arith)) (omega arith))
    h.pc_word h.halt_word h.marks_word h.mask_word

pub pushed_words : (s : State) (h : ℕ) → Words s → Words (pushed s h)
unfolding pushed pushed_rule
pushed_words s h w = spilled_words _ (special_words (slide s _) r_j (following s) (omega arith) (slide_words s _ w))

restored_word : (s : State) (x h : ℕ) (ls : List ℕ) (i : ℕ) → Below (2 ^ 64) ls → Words s → Word (restored s x h ls i)
unfolding restored last_output
restored_word s x h ls i b w =
    on Word (ltb i h) (λ e. b.at i) (λ e.
    on Word (eqb i h) (λ e. on Word (ltb (sp s r_l) x) (λ e. omega arith) (λ e. on Word (eqb x 0) (λ e. omega arith) (λ e. w.general_word _))) (λ e.
    on Word (ltb i (h + count_of s x)) (λ e. w.general_word _) (λ e. omega arith)))

pub popped_words : (s : State) (x h : ℕ) (ls : List ℕ) → Below (2 ^ 64) ls → Words s → Words (popped s x h ls)
unfolding popped
popped_words s x h ls ws w = spilled_words _ moved
  where
    moved : Words (unslide s x h ls)
    moved = unfold unslide in (
        let g : sp s r_g < 2 ^ 64 = w.special_word r_g in
        let o : sp s r_o < 2 ^ 64 = w.special_word r_o in
        words_by (unslide s x h ls)
        (over_bound (2 ^ 64) (restored s x h ls) 0 (sp s r_g) s.general (omega arith) (generals s w) (λ i. restored_word s x h ls i ws w))
        (set_below (2 ^ 64) _ r_o (sp s r_o - 8 * (h + 1)) (set_below (2 ^ 64) s.special r_l (min (h + count_of s x) (sp s r_g)) (specials s w) (omega arith)) (omega arith))
        w.pc_word w.halt_word w.marks_word w.mask_word)

pub saved_words : (s : State) (x : ℕ) → Words s → Words (saved_state s x)
unfolding saved_state saved_unspilled stored
saved_words s x w = spilled_words _ (words_by _
    (set_below (2 ^ 64) _ x (context_address s) (over_bound (2 ^ 64) (λ i. 0) 0 (sp s r_g) s.general (omega arith) (generals s w) (λ i. omega arith)) (omega arith))
    (set_below (2 ^ 64) _ r_o ((sp s r_o + 8 * extent s) % 2 ^ 64) (set_below (2 ^ 64) s.special r_l 0 (specials s w) (omega arith)) (omega arith))
    w.pc_word w.halt_word w.marks_word w.mask_word)

unsaved_word : (s : State) (o g a l : ℕ) (vs : List ℕ) (k : ℕ) → Word o → g ≤ 255 → a ≤ 0x3FFFF → l ≤ g → Below (2 ^ 64) vs → Words s → Word (unsaved_special s o g a l vs k)
unfolding unsaved_special
unsaved_word s o g a l vs k wo b c d ws w =
    on Word (eqb k r_g) (λ e. omega arith) (λ e. on Word (eqb k r_l) (λ e. omega arith) (λ e. on Word (eqb k r_a) (λ e. omega arith) (λ e. on Word (eqb k r_o) (λ e. wo) (λ e.
    on Word (leb k r_r) (λ e. ws.at _) (λ e. on Word (leb r_p k && leb k r_z) (λ e. ws.at _) (λ e. w.special_word k))))))

pub unsaved_words : (s : State) (o g a l : ℕ) (vs : List ℕ) → Word o → g ≤ 255 → a ≤ 0x3FFFF → l ≤ g → Below (2 ^ 64) vs → Words s → Words (unsaved s o g a l vs)
unfolding unsaved unsaved_unspilled
unsaved_words s o g a l vs wo b c d ws w = spilled_words _ (words_by _
    (over_bound (2 ^ 64) (unsaved_general g l vs) 0 256 s.general (omega arith) (generals s w)
    (λ i. unfold unsaved_general in (on Word (ltb i l) (λ e. ws.at _) (λ e. on Word (ltb i g) (λ e. omega arith) (λ e. ws.at _)))))
    (over_bound (2 ^ 64) (unsaved_special s o g a l vs) 0 32 s.special (omega arith) (specials s w) (λ k. unsaved_word s o g a l vs k wo b c d ws w))
    w.pc_word w.halt_word w.marks_word w.mask_word)

pub interrupted_words : (s : State) (b w x y z word u v : ℕ) → Word word → Word u → Word v → Words s → Words (interrupted s b w x y z word u v)
unfolding interrupted
interrupted_words s b w x y z word u v p q r h = words_by _
    (set_below (2 ^ 64) s.general 255 (sp s r_j) (generals s h) (h.special_word r_j))
    (set_below (2 ^ 64) _ z v (set_below (2 ^ 64) _ y u (set_below (2 ^ 64) _ x word (set_below (2 ^ 64) _ w (following s)
    (set_below (2 ^ 64) s.special b (reg s 255) (specials s h) (h.general_word 255)) (omega arith)) p) q) r)
    h.pc_word h.halt_word h.marks_word h.mask_word

pub added_words : (s : State) (f : ℕ) → Words s → Words (with_added s f)
unfolding with_added
added_words s f h =
    let b : added s f ≤ 255 = added_byte s f in
    special_words s r_a (bit_or (sp s r_a) (added s f)) (or_lt 64 (sp s r_a) (added s f) (h.special_word r_a) (omega arith)) h

-- ---- bytes

value_small : (n : ℕ) (l : List ℕ) (o v b : ℕ) → Below 256 l → v < b → value_of v (part l o n) < b * 256 ^ n
unfolding value_of part
value_small zero l o v b h p = omega arith
value_small (suc n) l o v b h p =
    let q : get_or l o 0 < 256 = h.at o in
    let r : value_of (v * 256 + get_or l o 0) (part l (suc o) n) < (b * 256) * 256 ^ n = value_small n l (suc o) (v * 256 + get_or l o 0) (b * 256) h (omega arith) in
    subst (λ (k : ℕ). value_of (v * 256 + get_or l o 0) (part l (suc o) n) < k) (turn b n) r
  where
    turn : (b n : ℕ) → (b * 256) * 256 ^ n ≡ b * 256 ^ suc n
    turn b n = mul_assoc b 256 (256 ^ n) ∙ ap (λ (k : ℕ). b * k) (sym (pow-succ' 256 n))

look_word : (w : Windows) (a : ℕ) → Bytes w → Word (look both w a)
unfolding look both octa_at octa_bytes
look_word w a h =
    on (λ (l : List ℕ). Word (value_of 0 l)) (has (shape_of w.b) a)
    (λ e. value_small 8 w.b.bytes (offset w.b.base a) 0 1 (record { at = h.byte_b }) (omega arith))
    (λ e. value_small 8 w.a.bytes (offset w.a.base a) 0 1 (record { at = h.byte_a }) (omega arith))

pub looks_words : (n : ℕ) (w : Windows) (a : ℕ) → Bytes w → Below (2 ^ 64) (looks both w a n)
unfolding looks
looks_words zero w a h = record { at = λ k. omega arith }
looks_words (suc n) w a h = cons_below (2 ^ 64) _ _ (look_word w a h) (looks_words n w (a + 8) h)

bytes_byte : (v : ℕ) → Below 256 (bytes_of v)
unfolding bytes_of
bytes_byte v =
    cons_below 256 _ _ (omega arith) (cons_below 256 _ _ (omega arith) (cons_below 256 _ _ (omega arith) (cons_below 256 _ _ (omega arith)
    (cons_below 256 _ _ (omega arith) (cons_below 256 _ _ (omega arith) (cons_below 256 _ _ (omega arith) (cons_below 256 _ _ (omega arith) (record { at = λ k. omega arith }))))))))

written_below_bound : (b : ℕ) (l : List ℕ) (o : ℕ) (vs : List ℕ) → Below b l → Below b vs → Below b (written l o vs)
unfolding written
written_below_bound b [] o vs h g = h
written_below_bound b (x ∷ xs) (suc o) vs h g = cons_below b x _ (h.at 0) (written_below_bound b xs o vs (tail_below b x xs h) g)
written_below_bound b (x ∷ xs) zero [] h g = h
written_below_bound b (x ∷ xs) zero (v ∷ vs) h g = cons_below b v _ (g.at 0) (written_below_bound b xs zero vs (tail_below b x xs h) (tail_below b v vs g))

put_bytes : (w : Windows) (a v : ℕ) → Bytes w → Bytes (put_octa w a v)
unfolding put_octa write_octa
put_bytes w a v h =
    on Bytes (has (shape_of w.b) a)
    (λ e. record { byte_a = h.byte_a; byte_b = (written_below_bound 256 w.b.bytes (offset w.b.base a) (bytes_of v) (record { at = h.byte_b }) (bytes_byte v)).at })
    (λ e. record { byte_a = (written_below_bound 256 w.a.bytes (offset w.a.base a) (bytes_of v) (record { at = h.byte_a }) (bytes_byte v)).at; byte_b = h.byte_b })

puts_bytes : (vs : List ℕ) (w : Windows) (a : ℕ) → Bytes w → Bytes (puts both w a vs)
unfolding puts both
puts_bytes [] w a h = h
puts_bytes (v ∷ vs) w a h = puts_bytes vs _ (a + 8) (put_bytes w a v h)

pub perform_bytes : {S : Type 0} (j : ℕ → ℕ) (s : S) (p : Plan S) (w : Windows) → Bytes w → Bytes (perform both j s p w).memory
unfolding perform
perform_bytes {S} j s (answer r t a vs) w h = on {A = Outcome S Windows} (λ o. Bytes o.memory) (clear j a (length vs)) (λ e. puts_bytes vs w a h) (λ e. h)
perform_bytes {S} j s (read q a n k) w h = on {A = Outcome S Windows} (λ o. Bytes o.memory) (clear j a n) (λ e. perform_bytes j s (k (looks both w a n)) w h) (λ e. h)
