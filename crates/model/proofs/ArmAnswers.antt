-- A property R of every answer that an arm's plan may give: its reply, its state, the octabytes that it stores. `Meets` asks R of each state builder.
-- W is a property of the numbers that a state comes to hold, Read of the octabytes that are read: both may say nothing. The step: StepAnswers.
use Rattle.model.proofs.Logic.{ℕ, ◌%◌, ◌*◌, ◌+◌, ◌<◌, ◌^◌, ◌≤◌, Bool, false, true, ◌&&◌, ◌||◌, List, [], ◌∷◌, inl, inr, ◌⊎◌, ⊎_elim, refl, ◌≡◌}
use Rattle.model.proofs.Logic.{arith, leading_le, count_leading_zeros, eqb, leb, ltb, get_or, eqb-false, eqb-true, leb-true, ltb-false}
use Rattle.model.specs.Fill.{tab}
use Rattle.model.specs.Registers.{r_g, r_l, r_a, sp, reg, hides, goes, following, next, halted, with_special, set_register, put_locals, put_globals}
use Rattle.model.specs.Plan.{Plan, answer, read}
use Rattle.model.specs.Opcodes.{Width, Sign, signed, unsigned, Arm, Direction, forward, backward, Operand, register, immediate, trip, trap, store, arithmetic, memory, system}
use Rattle.model.specs.NoMemory.{Said, tell}
use Rattle.model.specs.Control.{target_of, sum_of, operand_of}
use Rattle.model.specs.Frames.{hole, framed, pushed, popped, pop_to, pop_rule, no_frame, misplaced, pop_frame}
use Rattle.model.specs.Contexts.{extent, saved, saved_state, save_context, unsaved, context_rest, context_count, context_at}
use Rattle.model.specs.System.{is_privileged, is_illegal, put_refusal, put_state, unless_hidden, put_special, got, get_special, sync_of}
use Rattle.model.specs.Trips.{word_of, tripped, trapped, is_loaded, trip_rule, trip_to, enabled, with_added, raised}
use Rattle.model.specs.LoadStore.{fits, load_from, flag_v, store_says, store_to}
use Rattle.model.specs.ArithmeticStep.{results_in, with_results, arithmetic_says}
use Rattle.model.specs.Numbers.{Halting}
use Rattle.model.specs.declared.State.{State}
use Rattle.model.specs.declared.Operation.{Operation}
use Rattle.model.proofs.LoadStore.{operand_small, extended_small}
use Rattle.model.proofs.Bools.{and_left, and_right, or_left, or_right, eqb_swap, on}

unfoldable pub Answers : {S : Type 0} → (List ℕ → Type 0) → (ℕ → S → List ℕ → Type 0) → Plan S → Type 0
Answers Read R (answer r t a vs) = R r t vs
Answers Read R (read q a n k) = (q ≡ 6) × ((vs : List ℕ) → Read vs → Answers Read R (k vs))

pub record Meets (s : State) (W : ℕ → Type 0) (Read : List ℕ → Type 0) (R : ℕ → State → List ℕ → Type 0) : Type 0 where
  pub word : (n : ℕ) → n < 2 ^ 64 → W n
  pub general_is : (i : ℕ) → W (reg s i)
  pub special_is : (k : ℕ) → W (sp s k)
  pub refuses : R 3 s []
  pub halts : (n : ℕ) → Halting n → R n (halted s) []
  pub moves : (a : ℕ) → W a → R 0 (goes s a) []
  pub writes : (x v a : ℕ) → W v → W a → R 0 (goes (set_register s x v) a) []
  pub locals : (v a : ℕ) → W v → W a → R 0 (goes (put_locals s v) a) []
  pub globals : (v a : ℕ) → 32 ≤ v → v ≤ 255 → sp s r_l ≤ v → W a → R 0 (goes (put_globals s v) a) []
  pub status : (v a : ℕ) → v ≤ 0x3FFFF → W a → R 0 (goes (with_special s r_a v) a) []
  pub other : (k v a : ℕ) → eqb r_g k ≡ false → eqb r_l k ≡ false → eqb r_a k ≡ false → W v → W a → R 0 (goes (with_special s k v) a) []
  pub pushes : (x t : ℕ) → W t → R 0 (goes (pushed s (hole s x)) t) (tab 0 (hole s x + 1) (framed s (hole s x)))
  pub pops : (x t h : ℕ) (ls : List ℕ) → W t → Read ls → R 0 (goes (popped s x h ls) t) []
  pub saves : (x t : ℕ) → sp s r_g ≤ x → W t → R 0 (goes (saved_state s x) t) (tab 0 (extent s) (saved s))
  pub unsaves : (o g a l : ℕ) (vs : List ℕ) (t : ℕ) → W t → W o → 32 ≤ g → g ≤ 255 → a ≤ 0x3FFFF → l ≤ g → Read vs → R 0 (goes (unsaved s o g a l vs) t) []
  pub stores : (v a : ℕ) → W a → R 0 (goes s a) (v ∷ [])
  pub computes : (f : Operation) (x u v a : ℕ) → W u → W v → W a → R 0 (goes (with_results s x (results_in s f u v)) a) []

-- of an instruction of word n whose operands are u and v: the trip, the trip that finds no vector. What is stored is said elsewhere
pub record MeetsTrip (s : State) (W : ℕ → Type 0) (R : ℕ → State → Type 0) (n u v : ℕ) : Type 0 where
  pub trips : (a : ℕ) → W a → R 0 (goes (tripped s n u v) a)
  pub trips_not : R 19 (halted (tripped s n u v))

-- of one that raises the flags f: what is added to rA, then the trip
pub record MeetsRaise (s : State) (W : ℕ → Type 0) (R : ℕ → State → Type 0) (f n u v : ℕ) : Type 0 where
  pub adds : (a : ℕ) → W a → R 0 (goes (with_added s f) a)
  pub takes : MeetsTrip (with_added s f) W R n u v

-- of an instruction op x y z of arm a: TRIP, TRAP, a store that raises V, an operation that raises V or D
pub record MeetsInterrupt (s : State) (W : ℕ → Type 0) (R : ℕ → State → List ℕ → Type 0) (a : Arm) (op x y z : ℕ) : Type 0 where
  pub trips : a ≡ system trip → MeetsTrip s W (λ r t. R r t []) (word_of op x y z) (reg s y) (reg s z)
  pub traps : a ≡ system trap → R 20 (halted (trapped s (word_of op x y z) (reg s y) (reg s z))) []
  pub stores : (d : Width) (o : Operand) → a ≡ memory (store d signed o) → (v : ℕ) → MeetsRaise s W (λ r t. R r t (v ∷ [])) flag_v (word_of op x y z) (sum_of s o y z) (reg s x)
  pub computes : (f : Operation) (p q : Operand) → a ≡ arithmetic f p q
      → MeetsRaise (with_results s x (results_in s f (operand_of s p y) (operand_of s q z))) W (λ r t. R r t []) (results_in s f (operand_of s p y) (operand_of s q z)).flags
      (word_of op x y z) (operand_of s p y) (operand_of s q z)

pub small : (n : ℕ) → n % 2 ^ 64 < 2 ^ 64
small n = omega arith

pub target_small : (a : ℕ) (d : Direction) (size f : ℕ) → target_of a d size f < 2 ^ 64
unfolding target_of
target_small a forward size f = small _
target_small a backward size f = small _

-- ---- what PUT has judged

pub put_global : (s : State) (v : ℕ) → put_refusal s r_g v ≡ 0 → (32 ≤ v) × (sp s r_l ≤ v) × (v ≤ 255)
unfolding put_refusal
put_global s v =
    on (λ (n : ℕ). n ≡ 0 → (32 ≤ v) × (sp s r_l ≤ v) × (v ≤ 255)) (ltb v 32 || (ltb v (sp s r_l) || ltb 255 v)) (λ e f. absurd (omega arith))
    (λ e f.
    let r : (ltb v (sp s r_l) || ltb 255 v) ≡ false = or_right (ltb v 32) _ e in
    (ltb-false _ _ (or_left (ltb v 32) _ e), ltb-false _ _ (or_left (ltb v (sp s r_l)) _ r), ltb-false _ _ (or_right (ltb v (sp s r_l)) _ r)))

pub put_status : (s : State) (v : ℕ) → put_refusal s r_a v ≡ 0 → v ≤ 0x3FFFF
unfolding put_refusal
put_status s v = on (λ (n : ℕ). n ≡ 0 → v ≤ 0x3FFFF) (ltb 0x3FFFF v) (λ e f. absurd (omega arith)) (λ e f. ltb-false _ _ e)

-- 7 to 11, or none
abbrev pub Range : ℕ → Type 0
Range n = (n ≡ 0) ⊎ ((7 ≤ n) × (n ≤ 11))

pub put_bound : (s : State) (x v : ℕ) → Range (put_refusal s x v)
unfolding put_refusal
put_bound s x v =
    on Range (ltb 31 x) (λ e. inr (omega arith, omega arith)) (λ e.
    on Range (is_privileged x) (λ e. inr (omega arith, omega arith)) (λ e.
    on Range (is_illegal x) (λ e. inr (omega arith, omega arith)) (λ e.
    on Range (eqb x r_g) (λ e. on Range (ltb v 32 || (ltb v (sp s r_l) || ltb 255 v)) (λ e. inr (omega arith, omega arith)) (λ e. inl refl)) (λ e.
    on Range (eqb x r_a) (λ e. on Range (ltb 0x3FFFF v) (λ e. inr (omega arith, omega arith)) (λ e. inl refl)) (λ e. inl refl)))))

pub put_most : (s : State) (x v : ℕ) → put_refusal s x v ≤ 11
put_most s x v = ⊎_elim (λ e. omega arith) (λ h. h.1) (put_bound s x v)

put_range : (s : State) (x v : ℕ) → eqb (put_refusal s x v) 0 ≡ false → Halting (put_refusal s x v)
put_range s x v e = pick (put_refusal s x v) (eqb-false _ _ e) (put_bound s x v)
  where
    pick : (n : ℕ) → (n ≡ 0 → ⊥) → Range n → Halting n
    pick n f (inl g) = absurd (f g)
    pick n f (inr g) = let a : 7 ≤ n = g.0 in let b : n ≤ 11 = g.1 in inl (a, omega arith)

-- ---- the arms

abbrev pub Tells : (ℕ → State → Type 0) → Said → Type 0
Tells R d = R d.reply d.state

module _ (s : State) (W : ℕ → Type 0) (R : ℕ → State → Type 0) (word : (n : ℕ) → n < 2 ^ 64 → W n) where
  -- a trip through vector k, for TRIP and for exceptions
  pub trip_meets : (k n u v : ℕ) → k ≤ 9 → MeetsTrip s W R n u v → Tells R (trip_to s k n u v)
  unfolding trip_to trip_rule
  trip_meets k n u v b m = on {A = Said} (Tells R) (is_loaded s k) (λ e. m.trips (16 * k) (word _ (omega arith))) (λ e. m.trips_not)

-- what is added to rA, then the trip or @ + 4
pub raised_meets : (s : State) (W : ℕ → Type 0) (R : ℕ → State → Type 0) → ((n : ℕ) → n < 2 ^ 64 → W n)
    → (f n u v : ℕ) → MeetsRaise s W R f n u v → Tells R (raised s f n u v)
unfolding raised
raised_meets s W R word f n u v m =
    on {A = Said} (Tells R) (eqb (enabled s f) 0) (λ g. m.adds _ (word _ (small _)))
    (λ g. let l : count_leading_zeros 8 (enabled s f) ≤ 8 = leading_le 8 (enabled s f) in
    trip_meets (with_added s f) W R word (count_leading_zeros 8 (enabled s f) + 1) n u v (omega arith) m.takes)

module _ (s : State) (W : ℕ → Type 0) (Read : List ℕ → Type 0) (R : ℕ → State → List ℕ → Type 0) (m : Meets s W Read R) where
  pub onward : (t : State) → W (following t)
  onward t = m.word (following t) (small (t.pc + 4))

  pub operand_is : (o : Operand) (z : ℕ) → W z → W (operand_of s o z)
  operand_is register z w = m.general_is z
  operand_is immediate z w = w

  put_state_meets : (x v : ℕ) → W v → put_refusal s x v ≡ 0 → R 0 (next (put_state s x v)) []
  unfolding put_state
  put_state_meets x v w p =
      on (λ (t : State). R 0 (next t) []) (eqb x r_l) (λ el. m.locals v _ w (onward (put_locals s v)))
      (λ el. on (λ (t : State). R 0 (next t) []) (eqb x r_g)
      (λ eg. let b : (32 ≤ v) × (sp s r_l ≤ v) × (v ≤ 255) = put_global s v (rw (eqb-true x r_g eg) at p) in m.globals v _ b.0 b.2 b.1 (onward (put_globals s v)))
      (λ eg. last el eg (eqb x r_a) refl))
    where
      last : eqb x r_l ≡ false → eqb x r_g ≡ false → (b : Bool) → eqb x r_a ≡ b → R 0 (next (with_special s x v)) []
      last el eg true ea = rw (eqb-true x r_a ea) (m.status v _ (put_status s v (rw (eqb-true x r_a ea) at p)) (onward (with_special s r_a v)))
      last el eg false ea = m.other x v _ (eqb_swap x r_g eg) (eqb_swap x r_l el) (eqb_swap x r_a ea) w (onward (with_special s x v))

  unless_meets : (k : ℕ) (d : Said) → Tells (λ r t. R r t []) d → Tells (λ r t. R r t []) (unless_hidden s k d)
  unfolding unless_hidden
  unless_meets k d h = on {A = Said} (Tells (λ r t. R r t [])) (hides s.mask k) (λ e. m.halts 31 (inr (inr refl))) (λ e. h)

  pub put_meets : (x v : ℕ) → W v → Tells (λ r t. R r t []) (put_special s x v)
  unfolding put_special
  put_meets x v w =
      unless_meets _ _
      (on {A = Said} (Tells (λ r t. R r t [])) (eqb (put_refusal s x v) 0) (λ e. put_state_meets x v w (eqb-true _ _ e))
      (λ e. m.halts (put_refusal s x v) (put_range s x v e)))

  pub get_meets : (x z : ℕ) → Tells (λ r t. R r t []) (get_special s x z)
  unfolding get_special got
  get_meets x z = unless_meets _ _ (m.writes x (sp s z) _ (m.special_is z) (onward (set_register s x (sp s z))))

  pub sync_meets : (n : ℕ) → Tells (λ r t. R r t []) (sync_of s n)
  unfolding sync_of
  sync_meets n =
      on {A = Said} (Tells (λ r t. R r t [])) (ltb 7 n) (λ e. m.halts 18 (inl (omega arith, omega arith)))
      (λ e. on {A = Said} (Tells (λ r t. R r t [])) (leb 4 n) (λ e. m.halts 17 (inl (omega arith, omega arith))) (λ e. m.moves _ (onward s)))

  pub pop_meets : (x t : ℕ) → W t → Answers Read R (pop_frame s x t)
  unfolding pop_frame pop_rule pop_to tell Answers
  pop_meets x t w =
      on (Answers Read R) (no_frame s) (λ e. m.halts 29 (inr (inl refl)))
      (λ e. on (Answers Read R) (misplaced s) (λ e. m.halts 12 (inl (omega arith, omega arith))) (λ e. (refl, λ vs i. (refl, λ ls j. m.pops x t _ ls w j))))

  pub save_meets : (x : ℕ) → Answers Read R (save_context s x)
  unfolding save_context tell Answers
  save_meets x = on (Answers Read R) (ltb x (sp s r_g)) (λ e. m.halts 13 (inl (omega arith, omega arith))) (λ e. m.saves x _ (ltb-false _ _ e) (onward (saved_state s x)))

-- a context, for UNSAVE and for the reader
module _ {S : Type 0} (bad : S) (found : ℕ → ℕ → ℕ → ℕ → List ℕ → S) (p : ℕ) (Read : List ℕ → Type 0) (R : ℕ → S → List ℕ → Type 0)
    (refuses : (n : ℕ) → 14 ≤ n → n ≤ 16 → R n bad [])
    (finds : (o g a l : ℕ) (vs : List ℕ) → o < 2 ^ 64 → 32 ≤ g → g ≤ 255 → a ≤ 0x3FFFF → l ≤ g → Read vs → R 0 (found o g a l vs) []) where
  rest_meets : (g a l : ℕ) → 32 ≤ g → g ≤ 255 → a ≤ 0x3FFFF → Answers Read R (context_rest bad found p g a l)
  unfolding context_rest Answers
  rest_meets g a l b c d =
      on (Answers Read R) (leb l g) (λ e. (refl, λ vs j. finds _ g a l vs (small _) b c d (leb-true _ _ e) j)) (λ e. refuses 16 (omega arith) (omega arith))

  count_meets : (g a : ℕ) → Answers Read R (context_count bad found p g a)
  unfolding context_count Answers
  count_meets g a =
      on (Answers Read R) (leb 32 g && leb g 255)
      (λ e. on (Answers Read R) (leb a 0x3FFFF)
      (λ f. (refl, λ v j. rest_meets g a _ (leb-true _ _ (and_left (leb 32 g) _ e)) (leb-true _ _ (and_right (leb 32 g) _ e)) (leb-true _ _ f)))
      (λ f. refuses 15 (omega arith) (omega arith)))
      (λ e. refuses 14 (omega arith) (omega arith))

  pub context_meets : Answers Read R (context_at bad found p)
  unfolding context_at Answers
  context_meets = (refl, λ v j. count_meets _ _)

module _ (s : State) (W : ℕ → Type 0) (Read : List ℕ → Type 0) (R : ℕ → State → List ℕ → Type 0) (m : Meets s W Read R) where
  pub load_meets : (d : Width) (g : Sign) (x a : ℕ) → Answers Read R (load_from s d g x a)
  unfolding load_from Answers
  load_meets d g x a = (refl, λ v j. m.writes x _ _ (m.word _ (extended_small d g _ (operand_small d a (get_or v 0 0)))) (onward s W Read R m (set_register s x _)))

  says_meets : (d : Width) (g : Sign) (x a n v : ℕ) → (g ≡ signed → MeetsRaise s W (λ r t. R r t (v ∷ [])) flag_v n a (reg s x))
      → Tells (λ r t. R r t (v ∷ [])) (store_says s d g x a n)
  unfolding store_says fits
  says_meets d signed x a n v h =
      on {A = Said} (Tells (λ r t. R r t (v ∷ []))) (fits d signed (reg s x)) (λ e. m.stores v _ (onward s W Read R m s))
      (λ e. raised_meets s W (λ r t. R r t (v ∷ [])) m.word flag_v n a (reg s x) (h refl))
  says_meets d unsigned x a n v h = m.stores v _ (onward s W Read R m s)

  pub store_meets : (d : Width) (g : Sign) (x a n : ℕ) → (g ≡ signed → (v : ℕ) → MeetsRaise s W (λ r t. R r t (v ∷ [])) flag_v n a (reg s x)) → Answers Read R (store_to s d g x a n)
  unfolding store_to Answers
  store_meets d g x a n h = (refl, λ v j. says_meets d g x a n _ (λ e. h e _))

  pub arithmetic_meets : (f : Operation) (x u v n : ℕ) → W u → W v
      → MeetsRaise (with_results s x (results_in s f u v)) W (λ r t. R r t []) (results_in s f u v).flags n u v → Tells (λ r t. R r t []) (arithmetic_says s f x u v n)
  unfolding arithmetic_says
  arithmetic_meets f x u v n wu wv h =
      on {A = Said} (Tells (λ r t. R r t [])) (eqb (results_in s f u v).flags 0) (λ e. m.computes f x u v _ wu wv (onward s W Read R m (with_results s x (results_in s f u v))))
      (λ e. raised_meets (with_results s x (results_in s f u v)) W (λ r t. R r t []) m.word (results_in s f u v).flags n u v h)
