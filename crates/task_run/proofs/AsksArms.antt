-- What the arm of an opcode asks, and the instruction at PC, over plain variables.
use Rattle.model.proofs.Prelude.{suc, zero, ℕ, ◌+◌, ◌<◌, ◌≤◌, Bool, cond, false, true, ◌||◌, List, [], ◌∷◌, ap, refl, sym, ◌∙◌, ◌≡◌, arith, eqb, leb, ltb, get_or}
use Rattle.model.proofs.Prelude.{set, ltb-true, extent, sum_of, hole, operand_in, holder, inside, shapes_of, Windows, among, Arm, arm_of, first_load, first_store}
use Rattle.model.proofs.Prelude.{last_load, last_of, last_store, op_pop, op_pushgo, op_pushgoi, op_pushj, op_pushjb, op_save, op_unsave, tetra, ups, admissible}
use Rattle.model.proofs.Prelude.{claim_local, cleared, is_marginal, reg, r_g, r_l, r_o, sp, with_special, needs_in, quiet, refusal_in, Row, touching, row_of, claimed_at}
use Rattle.model.proofs.Prelude.{claimed_by, claims, fetched_needs, opcode_in, refusal_of, tetra_at, tetra_of, unruled_by, x_in, y_in, z_in, arm_needs, pop_needs, run}
use Rattle.model.proofs.Prelude.{tetra_needs, unsave_needs, and_right, at_each, each, Missed, missed}
use Rattle.task_run.proofs.Prelude.{State, read_octa, held_inside, held_none, octa_held, any_foreign, any_one, or_none}
use Rattle.model.proofs.StepNeeds.{needs_are}
use Rattle.decode.proofs.Groups.{load_arm, store_arm}
use Rattle.task_run.specs.Ask.{own_of, whole_of, is_foreign, asks, OwnOnly, CountsInRange}
use Rattle.model.specs.Lent.{SaidBy}
use Rattle.model.specs.declared.Instruction.{Instruction}
use Rattle.task_run.specs.declared.ask.Whole.{Whole}
use Rattle.task_run.proofs.Asks.{differ, asks_last}

-- ---- arms that need nothing

abbrev is_quiet : Row → Bool
is_quiet (quiet q) = true
is_quiet (touching t) = false

unfoldable silent : Arm → Bool
silent a = is_quiet (row_of a)

silent_needs : (w : Windows) (s : State) (a : Arm) (x y z : ℕ) → silent a ≡ true → arm_needs w s a x y z ≡ []
unfolding silent arm_needs
silent_needs w s a x y z = go (row_of a)
  where
    go : (r : Row) → is_quiet r ≡ true → needs_in r w s x y z ≡ []
    go (quiet q) e = refl
    go (touching t) e = absurd (differ (sym e))

-- the keys of the match, in their order
abbrev pub keys : List ℕ
keys = op_pushgo ∷ op_pushgoi ∷ op_pushj ∷ op_pushjb ∷ op_pop ∷ op_save ∷ op_unsave ∷ []

-- every opcode is a load, a store, a key, or needs nothing
abbrev settles : ℕ → Bool
settles op =
    among first_load last_load op || (among first_store last_store op || (eqb op op_pushgo || (eqb op op_pushgoi || (eqb op op_pushj || (eqb op op_pushjb
    || (eqb op op_pop || (eqb op op_save || (eqb op op_unsave || silent (arm_of op)))))))))

all_settled : each 256 settles ≡ true
unfolding each arm_of silent
all_settled = refl

module _ (h : Whole) (w : Windows) (s : State) (op x y z : ℕ) where
  pub none_asks : op < 256 → among first_load last_load op ≡ false → among first_store last_store op ≡ false → Missed keys op → false ≡ asks h (arm_needs w s (arm_of op) x y z)
  unfolding any_foreign
  none_asks l a b m =
      let k = missed keys op m in
      let q : silent (arm_of op) ≡ true
      = simp (a, b, k op_pushgo refl, k op_pushgoi refl, k op_pushj refl, k op_pushjb refl, k op_pop refl, k op_save refl, k op_unsave refl) at (at_each 256 settles all_settled op l) in
      rw (silent_needs w s (arm_of op) x y z q)

  -- ---- a load, a store: the octabyte at a

  module _ (a : ℕ) (e : a ≡ sum_of s (last_of op) y z) (r : Bool) (f : r ≡ is_foreign h a) where
    pub load_asks : among first_load last_load op ≡ true → r ≡ asks h (arm_needs w s (arm_of op) x y z)
    unfolding arm_needs
    load_asks i = rw (load_arm op i, ← e) (f ∙ sym (any_one (own_of h) (whole_of h) a))

    pub store_asks : among first_store last_store op ≡ true → r ≡ asks h (arm_needs w s (arm_of op) x y z)
    unfolding arm_needs any_foreign
    store_asks i = rw (store_arm op i, ← e) (f ∙ go (inside (shapes_of w) a))
      where
        twice : (b : Bool) → b ≡ (b || (b || false))
        twice true = refl
        twice false = refl

        go : (b : Bool) → is_foreign h a ≡ asks h (cond b (a ∷ a ∷ []) (a ∷ []))
        go true = twice (is_foreign h a)
        go false = sym (or_none (is_foreign h a))

  -- ---- the keys

  by_key : (k : ℕ) → op ≡ k → (l : List ℕ) → arm_needs w s (arm_of k) x y z ≡ l → (r : Bool) → r ≡ asks h l → r ≡ asks h (arm_needs w s (arm_of op) x y z)
  by_key k e l f r g = g ∙ sym (ap (λ (n : ℕ). asks h (arm_needs w s (arm_of n) x y z)) e ∙ ap (asks h) f)

  pub pop_asks : op ≡ op_pop → (r : Bool) → r ≡ asks h (pop_needs w s) → r ≡ asks h (arm_needs w s (arm_of op) x y z)
  pop_asks e = by_key op_pop e (pop_needs w s) (unfold arm_of arm_needs in refl)

  pub unsave_asks : op ≡ op_unsave → (r : Bool) → r ≡ asks h (unsave_needs w (reg s z)) → r ≡ asks h (arm_needs w s (arm_of op) x y z)
  unsave_asks e = by_key op_unsave e (unsave_needs w (reg s z)) (unfold arm_of arm_needs in refl)

  module _ (o : OwnOnly h w) where
    pub save_asks : op ≡ op_save → (r : Bool) → r ≡ asks h (cond (ltb x (sp s r_g)) [] (ups (sp s r_o) (extent s))) → r ≡ asks h (arm_needs w s (arm_of op) x y z)
    save_asks e r g = by_key op_save e (cond (ltb x (sp s r_g)) [] (run w (sp s r_o) (extent s) [])) (unfold arm_of arm_needs in refl) r (g ∙ go (ltb x (sp s r_g)))
      where
        go : (b : Bool) → asks h (cond b [] (ups (sp s r_o) (extent s))) ≡ asks h (cond b [] (run w (sp s r_o) (extent s) []))
        go true = refl
        go false = sym (asks_last h w o (sp s r_o) (extent s))

    -- one of the four calls, k
    call_asks : (k : ℕ) → arm_needs w s (arm_of k) x y z ≡ run w (sp s r_o) (hole s x + 1) [] → op ≡ k → (r : Bool) → r ≡ asks h (ups (sp s r_o) (hole s x + 1))
        → r ≡ asks h (arm_needs w s (arm_of op) x y z)
    call_asks k f e r g = by_key k e (run w (sp s r_o) (hole s x + 1) []) f r (g ∙ sym (asks_last h w o (sp s r_o) (hole s x + 1)))

    module _ (r : Bool) (g : r ≡ asks h (ups (sp s r_o) (hole s x + 1))) where
      pub push_go_asks : op ≡ op_pushgo → r ≡ asks h (arm_needs w s (arm_of op) x y z)
      push_go_asks e = call_asks op_pushgo (unfold arm_of arm_needs in refl) e r g

      pub push_go_immediate_asks : op ≡ op_pushgoi → r ≡ asks h (arm_needs w s (arm_of op) x y z)
      push_go_immediate_asks e = call_asks op_pushgoi (unfold arm_of arm_needs in refl) e r g

      pub push_asks : op ≡ op_pushj → r ≡ asks h (arm_needs w s (arm_of op) x y z)
      push_asks e = call_asks op_pushj (unfold arm_of arm_needs in refl) e r g

      pub push_back_asks : op ≡ op_pushjb → r ≡ asks h (arm_needs w s (arm_of op) x y z)
      push_back_asks e = call_asks op_pushjb (unfold arm_of arm_needs in refl) e r g

-- ---- the instruction at PC

either : (b : Bool) → cond {A = List ℕ} b [] [] ≡ []
either true = refl
either false = refl

-- what 3 to 5 refuse needs nothing in any case
unrefused : (w : Windows) (s : State) (a : Arm) (x y z : ℕ) → cond (eqb (refusal_of a x y z) 0) (arm_needs w s a x y z) [] ≡ arm_needs w s a x y z
unfolding refusal_of arm_needs
unrefused w s a x y z = go (row_of a)
  where
    go : (r : Row) → cond (eqb (refusal_in r x y z) 0) (needs_in r w s x y z) [] ≡ needs_in r w s x y z
    go (quiet q) = either (eqb (refusal_in (quiet q) x y z) 0)
    go (touching t) = refl

module _ (h : Whole) (w : Windows) (o : OwnOnly h w) (s : State) (a : admissible s ≡ true) (u : unruled_by (shapes_of w) ≡ 0) (k : ℕ) (e : k ≡ holder (shapes_of w) s.pc) where
  needed : asks h (fetched_needs w s) ≡ (is_foreign h s.pc || asks h (cond (inside (shapes_of w) s.pc) (tetra_needs w (tetra_of w s) (claimed_at w s)) []))
  unfolding any_foreign
  needed = ap (asks h) (needs_are.by_fetched w s) ∙ rw (a, u)

  pub unfetched_asks : k ≡ 2 → (r : Bool) → r ≡ is_foreign h s.pc → r ≡ asks h (fetched_needs w s)
  unfolding any_foreign
  unfetched_asks q r f = f ∙ sym (needed ∙ rw (held_none (shapes_of w) s.pc (sym e ∙ q)) (or_none (is_foreign h s.pc)))

  -- v is the octabyte at PC, t the tetra there, i the instruction that it says, c the state that its arm works on
  pub fetched_asks : (k ≡ 2 → ⊥) → (v t : ℕ) → v ≡ read_octa w s.pc → t ≡ operand_in tetra s.pc v → (i : Instruction) → SaidBy t i → (c : State) → c ≡ claimed_by s i.op i.x
      → (r : Bool) → r ≡ asks h (arm_needs w c (arm_of i.op) i.x i.y i.z) → r ≡ asks h (fetched_needs w s)
  fetched_asks q v t d f i b c g r j =
      let there : inside (shapes_of w) s.pc ≡ true = held_inside (shapes_of w) s.pc (λ z. q (e ∙ z)) in
      let same : tetra_of w s ≡ t = unfold tetra_at in (ap (operand_in tetra s.pc) (sym (d ∙ octa_held w s.pc (λ z. q (e ∙ z)))) ∙ sym f) in
      let on : c ≡ claimed_by s (opcode_in t) (x_in t) = rw b at g in
      let needs : r ≡ asks h (arm_needs w c (arm_of (opcode_in t)) (x_in t) (y_in t) (z_in t)) = rw b at j in
      needs ∙ sym (needed ∙ rw (there, o.none_foreign s.pc there, same, ← on) (unfold tetra_needs in (ap (asks h) (unrefused w c (arm_of (opcode_in t)) (x_in t) (y_in t) (z_in t)))))

-- ---- a claim

set_most : (l : List ℕ) (i k v n : ℕ) → get_or l k 0 ≤ n → v ≤ n → get_or (set l i v) k 0 ≤ n
set_most [] i k v n a b = a
set_most (x ∷ l) zero zero v n a b = b
set_most (x ∷ l) zero (suc k) v n a b = a
set_most (x ∷ l) (suc i) zero v n a b = a
set_most (x ∷ l) (suc i) (suc k) v n a b = set_most l i k v n a b

pub claim_counted : (s t : State) (x : ℕ) → t ≡ claim_local s x → CountsInRange s.special → CountsInRange t.special
unfolding claim_local with_special cleared
claim_counted s t x e k = rw e (go (is_marginal s x) refl)
  where
    go : (b : Bool) → is_marginal s x ≡ b → CountsInRange (cond b (with_special (cleared s (sp s r_l) (x + 1)) r_l (x + 1)) s).special
    go true q =
        let l : x < sp s r_g = ltb-true x (sp s r_g) (and_right (leb (sp s r_l) x) (ltb x (sp s r_g)) q) in
        let m : sp s r_g ≤ 255 = k.threshold in
        record { threshold = set_most s.special r_l r_g (x + 1) 255 k.threshold (omega arith); locals = set_most s.special r_l r_l (x + 1) 255 k.locals (omega arith) }
    go false q = k

pub plain_claim : (s : State) (op x : ℕ) → claims op ≡ false → s ≡ claimed_by s op x
unfolding claimed_by
plain_claim s op x e = rw e

pub marginal_claim : (s t : State) (op x : ℕ) → claims op ≡ true → t ≡ claim_local s x → t ≡ claimed_by s op x
unfolding claimed_by
marginal_claim s t op x e f = rw e f
