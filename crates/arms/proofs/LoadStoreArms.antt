-- Laws of loads and stores, over plain variables: an address that is refused; then what a load leaves, what a store leaves where $X fits and where it
-- raises V; the step of their opcodes. The operand: Operands of crate decode.
use Rattle.model.proofs.Prelude.{ℕ, ◌%◌, ◌+◌, ◌^◌, Bool, cond, false, true, List, [], ◌∷◌, ap, refl, ◌∙◌, ◌≡◌, arith, eqb, eq-eqb, ne_eqb, sum_of, extended}
use Rattle.model.proofs.Prelude.{fits, flag_v, load_from, merged, operand_in, store_says, store_to, both, put_octa, shapes_of, Windows, reply_of, among, Arm, arm_of}
use Rattle.model.proofs.Prelude.{first_arithmetic, first_load, first_store, last_arithmetic, last_load, last_of, last_store, none, op_put, op_puti, sign_of, width_of}
use Rattle.model.proofs.Prelude.{made, answer, look, looks, named, perform, Plan, puts, read, worst, admissible, reg, set_register, with_parts, refusal_of}
use Rattle.model.proofs.Prelude.{refusing, step_of, unruled_by, raised, word_of, worst_six, step_refused}
use Rattle.arms.proofs.Prelude.{Reply, Done, Missing, State, Told, next_is}
use Rattle.decode.proofs.Groups.{load_arm, store_arm, arithmetic_arm}
use Rattle.arms.specs.NoMemoryArms.{arithmetic_of, put_of}
use Rattle.arms.specs.Replied.{Replied}
use Rattle.arms.specs.Arms.{carried_out, load_of, store_of, telling, ranged_of}
use Rattle.arms.proofs.ArmSteps.{said_step, touching_step}
use Rattle.arms.proofs.Keys.{put_arm}

-- ---- one octabyte, read first

module _ (w : Windows) (s : State) (a : ℕ) (k : List ℕ → Plan State) where
  read_missing : (worst (refusing (shapes_of w)) a 1 ≡ 0 → ⊥) → Replied (carried_out w s (read 6 a 1 k)) Missing s w
  unfolding perform named reply_of
  read_missing n =
      let e : eqb (worst (refusing (shapes_of w)) a 1) 0 ≡ false = ne_eqb _ 0 n in
      rw (e, worst_six (shapes_of w) 1 a e) (record { reply_is = refl; state_is = refl; window_is = refl })

  read_there : worst (refusing (shapes_of w)) a 1 ≡ 0 → carried_out w s (read 6 a 1 k) ≡ carried_out w s (k (look both w a ∷ []))
  unfolding perform looks
  read_there e = rw (eq-eqb _ 0 e)

  -- an answer that stores there
  stores_there : (r : ℕ) (t : State) (v : ℕ) → worst (refusing (shapes_of w)) a 1 ≡ 0 → carried_out w s (answer r t a (v ∷ [])) ≡ record { reply = r; state = t; memory = put_octa w a v }
  unfolding perform puts both
  stores_there r t v e = rw (eq-eqb _ 0 e)

module _ (w : Windows) (s : State) (op x y z a : ℕ) (h : a ≡ sum_of s (last_of op) y z) where
  -- ---- loads

  pub load_missing : (worst (refusing (shapes_of w)) a 1 ≡ 0 → ⊥) → Replied (load_of w s op x y z) Missing s w
  unfolding load_from
  load_missing n = rw (← h) (read_missing w s a _ n)

  module _ (e : worst (refusing (shapes_of w)) a 1 ≡ 0) where
    pub load_done : (v u : ℕ) (g l : List ℕ) (n : ℕ) → v ≡ look both w a → u ≡ extended (width_of op) (sign_of op) (operand_in (width_of op) a v)
        → with_parts s g l ≡ set_register s x u → n ≡ (s.pc + 4) % 2 ^ 64 → Replied (load_of w s op x y z) Done (made g l n s.halt s.marks s.mask) w
    unfolding load_from
    load_done v u g l n p q r f = rw (← h, read_there w s a _ e)
        (unfold perform worst puts reply_of in (record { reply_is = refl; state_is = next_is (with_parts s g l) _ (r ∙ ap (set_register s x) (q ∙ ap (λ (k : ℕ). extended (width_of op) (sign_of op) (operand_in (width_of op) a k)) p)) n f; window_is = refl }))

  -- ---- stores

  pub store_missing : (worst (refusing (shapes_of w)) a 1 ≡ 0 → ⊥) → Replied (store_of w s op x y z) Missing s w
  unfolding store_to
  store_missing n = rw (← h) (read_missing w s a _ n)

  module _ (e : worst (refusing (shapes_of w)) a 1 ≡ 0) (v m : ℕ) (u : Windows) (p : v ≡ look both w a) (q : m ≡ merged (width_of op) a v (reg s x)) (r : u ≡ put_octa w a m) where
    store_says_law : store_of w s op x y z ≡ record { reply = (store_says s (width_of op) (sign_of op) x a (word_of op x y z)).reply; state = (store_says s (width_of op) (sign_of op) x a (word_of op x y z)).state; memory = u }
    unfolding store_to
    store_says_law = rw (← h, read_there w s a _ e, ← p, ← q, stores_there w s a (λ k. answer 0 s 0 []) (store_says s (width_of op) (sign_of op) x a (word_of op x y z)).reply (store_says s (width_of op) (sign_of op) x a (word_of op x y z)).state m e, r)

    pub store_fits : (n : ℕ) → fits (width_of op) (sign_of op) (reg s x) ≡ true → n ≡ (s.pc + 4) % 2 ^ 64 → Replied (store_of w s op x y z) Done (made s.general s.special n s.halt s.marks s.mask) u
    unfolding store_says reply_of
    store_fits n f i = rw (store_says_law, f) (record { reply_is = refl; state_is = next_is s s refl n i; window_is = refl })

    pub store_raises : (word : ℕ) (k : Reply) (t : State) → fits (width_of op) (sign_of op) (reg s x) ≡ false → word ≡ word_of op x y z → Told (raised s flag_v word a (reg s x)) k t
        → Replied (store_of w s op x y z) k t u
    unfolding store_says
    store_raises word k t f i h = rw (store_says_law, f, ← i) (record { reply_is = h.reply_is; state_is = h.state_is; window_is = refl })

-- ---- the step

-- an opcode of none of the ranges, the branches apart
pub record OutOfRange (op : ℕ) : Type 0 where
  pub no_load : among first_load last_load op ≡ false
  pub no_store : among first_store last_store op ≡ false
  pub no_arithmetic : among first_arithmetic last_arithmetic op ≡ false
  pub no_put : among op_put op_puti op ≡ false

module _ (w : Windows) (s : State) (a : admissible s ≡ true) (u : unruled_by (shapes_of w) ≡ 0) (op x y z : ℕ) (r : Reply) (t : State) where
  -- an opcode that has no arm outside the ranges
  pub ranged_step : (v : Windows) → (OutOfRange op → arm_of op ≡ none) → Replied (ranged_of w s op x y z) r t v → Replied (step_of w s op x y z) r t v
  unfolding ranged_of
  ranged_step v n = go (among first_load last_load op) (among first_store last_store op) (among first_arithmetic last_arithmetic op) (among op_put op_puti op) refl refl refl refl
    where
      go : (p q k o : Bool) → among first_load last_load op ≡ p → among first_store last_store op ≡ q → among first_arithmetic last_arithmetic op ≡ k → among op_put op_puti op ≡ o
          → Replied (cond p (load_of w s op x y z) (cond q (store_of w s op x y z)
          (cond k (telling w (arithmetic_of s op x y z)) (cond o (telling w (put_of s op x z)) (record { reply = 3; state = s; memory = w }))))) r t v
          → Replied (step_of w s op x y z) r t v
      go true q k o e f g d h = touching_step w s a u op x y z r t _ (load_arm op e) _ refl v h
      go false true k o e f g d h = touching_step w s a u op x y z r t _ (store_arm op f) _ refl v h
      go false false true o e f g d h = said_step w s a u op x y z r t _ (arithmetic_arm op g) _ refl refl v h
      go false false false true e f g d h = said_step w s a u op x y z r t _ (put_arm op d) _ refl refl v h
      go false false false false e f g d h =
          rw (step_refused w s a u op x y z 3
          (ap (λ (i : Arm). refusal_of i x y z) (n (record { no_load = e; no_store = f; no_arithmetic = g; no_put = d })) ∙ (unfold refusal_of in refl)) (omega arith)) h
