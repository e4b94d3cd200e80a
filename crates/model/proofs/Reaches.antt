-- Theorem 13: a field reaches a target where the distance is the field's own, and of the distances below 2^64 each is that of one pair at most.
use Rattle.model.proofs.Logic.{ℕ, ◌%◌, ◌*◌, ◌+◌, ◌-◌, ◌/◌, ◌<◌, ◌^◌, ◌≤◌, true, ◌≢◌, ap, refl, sym, ◌∙◌, ◌≡◌, arith, eqb, leb, ltb, eq-eqb, eqb-true}
use Rattle.model.proofs.Logic.{le-leb, le-ltb, leb-true, lt-ltb, ltb-true}
use Rattle.model.specs.Memory.{Windows}
use Rattle.model.specs.Registers.{reg, goes}
use Rattle.model.specs.Opcodes.{Condition, Direction, forward, backward, branch, jump, arm_of, control}
use Rattle.model.specs.NoMemory.{say}
use Rattle.model.specs.Control.{yz_of, xyz_of, branch_fields, jump_fields, target_of, near, far, holds}
use Rattle.model.specs.Step.{refusal_of, plan_of, step_of}
use Rattle.model.specs.Field.{distance, field_at, field_of, pair, x_in, y_in, z_in}
use Rattle.model.specs.Order.{refused_by, Passes}
use Rattle.model.specs.Reaches.{FieldReaches, OnePair, YzGoes, XyzGoes, FieldTheorem}
use Rattle.model.specs.declared.State.{State}
use Rattle.model.specs.declared.Reach.{Reach}
use Rattle.model.specs.declared.Reach.TheVariants.{Forward, Backward, Neither}
use Rattle.model.proofs.Bools.{on}
use Rattle.model.proofs.StepByArm.{passing, step_told}

-- ---- distances

-- by how much a field moves an address up, modulo 2^64
unfoldable stride : Direction → ℕ → ℕ → ℕ
stride forward size f = 4 * f
stride backward size f = 2 ^ 64 - 4 * (size - f)

target_stride : (from : ℕ) (w : Direction) (size f : ℕ) → target_of from w size f ≡ (from + stride w size f) % 2 ^ 64
unfolding target_of stride
target_stride from forward size f = refl
target_stride from backward size f = refl

stride_small : (w : Direction) (size f : ℕ) → size ≤ 2 ^ 61 → f < size → stride w size f < 2 ^ 64
unfolding stride
stride_small forward size f h l = omega arith
stride_small backward size f h l = omega arith

module _ (from to d : ℕ) (a : from < 2 ^ 64) (b : to < 2 ^ 64) where
  distance_up : d ≡ distance from to → (from + d) % 2 ^ 64 ≡ to
  distance_up e = omega arith

  up_distance : d < 2 ^ 64 → (from + d) % 2 ^ 64 ≡ to → distance from to ≡ d
  up_distance l e = omega arith

-- ---- a distance and its pair

module _ (size d : ℕ) (h : size ≤ 2 ^ 61) (dl : d < 2 ^ 64) where
  pair_stride : (w : Direction) (f : ℕ) → field_at size d ≡ pair w f → (f < size) × (d ≡ stride w size f)
  unfolding field_at stride
  pair_stride w f =
      on (λ (r : Reach). r ≡ pair w f → (f < size) × (d ≡ stride w size f)) (eqb (d % 4) 0)
      (λ e. on (λ (r : Reach). r ≡ pair w f → (f < size) × (d ≡ stride w size f)) (ltb (d / 4) size) (λ k. ahead w (eqb-true (d % 4) 0 e) (ltb-true (d / 4) size k))
      (λ k. on (λ (r : Reach). r ≡ pair w f → (f < size) × (d ≡ stride w size f)) (leb (2 ^ 62 - size) (d / 4)) (λ m. behind w (eqb-true (d % 4) 0 e) (leb-true (2 ^ 62 - size) (d / 4) m)) (λ m. never w)))
      (λ e. never w)
    where
      ahead : (u : Direction) → d % 4 ≡ 0 → d / 4 < size → Forward (d / 4) ≡ pair u f → (f < size) × (d ≡ stride u size f)
      ahead forward e k p = let q : d / 4 ≡ f = cc in (omega arith, omega arith)
      ahead backward e k p = absurd (let q : ◌≡◌ {A = ℕ} 0 1 = cc in omega arith)

      behind : (u : Direction) → d % 4 ≡ 0 → 2 ^ 62 - size ≤ d / 4 → Backward (d / 4 - (2 ^ 62 - size)) ≡ pair u f → (f < size) × (d ≡ stride u size f)
      behind forward e k p = absurd (let q : ◌≡◌ {A = ℕ} 0 1 = cc in omega arith)
      behind backward e k p = let q : d / 4 - (2 ^ 62 - size) ≡ f = cc in (omega arith, omega arith)

      never : (u : Direction) → Neither ≡ pair u f → (f < size) × (d ≡ stride u size f)
      never forward p = absurd (let q : ◌≡◌ {A = ℕ} 0 1 = cc in omega arith)
      never backward p = absurd (let q : ◌≡◌ {A = ℕ} 0 1 = cc in omega arith)

  stride_pair : (w : Direction) (f : ℕ) → f < size → d ≡ stride w size f → field_at size d ≡ pair w f
  unfolding field_at stride
  stride_pair forward f l e = rw (eq-eqb (d % 4) 0 (omega arith), lt-ltb (d / 4) size (omega arith)) (ap Forward (omega arith))
  stride_pair backward f l e =
      rw (eq-eqb (d % 4) 0 (omega arith), le-ltb (d / 4) size (omega arith), le-leb (2 ^ 62 - size) (d / 4) (omega arith)) (ap Backward (omega arith))

-- ---- addresses

same_pair : (u v : Direction) (f g : ℕ) → pair u f ≡ pair v g → (u ≡ v) × (f ≡ g)
same_pair forward forward f g p = (refl, cc)
same_pair backward backward f g p = (refl, cc)
same_pair forward backward f g p = absurd (let q : ◌≡◌ {A = ℕ} 0 1 = cc in omega arith)
same_pair backward forward f g p = absurd (let q : ◌≡◌ {A = ℕ} 0 1 = cc in omega arith)

no_pair : (u : Direction) (f : ℕ) → Neither ≢ pair u f
no_pair forward f p = let q : ◌≡◌ {A = ℕ} 0 1 = cc in omega arith
no_pair backward f p = let q : ◌≡◌ {A = ℕ} 0 1 = cc in omega arith

distance_small : (from to : ℕ) → distance from to < 2 ^ 64
distance_small from to = omega arith

module _ (size from to : ℕ) (h : size ≤ 2 ^ 61) (a : from < 2 ^ 64) (b : to < 2 ^ 64) where
  found : (w : Direction) (f : ℕ) → field_of size from to ≡ pair w f → (f < size) × (target_of from w size f ≡ to)
  unfolding field_of
  found w f p =
      let q : (f < size) × (distance from to ≡ stride w size f) = pair_stride size (distance from to) h (distance_small from to) w f p in
      (q.0, target_stride from w size f ∙ distance_up from to (stride w size f) a b (sym q.1))

  all : (w : Direction) (f : ℕ) → f < size → target_of from w size f ≡ to → field_of size from to ≡ pair w f
  unfolding field_of
  all w f l e = stride_pair size (distance from to) h (distance_small from to) w f l
      (up_distance from to (stride w size f) a b (stride_small w size f h l) (sym (target_stride from w size f) ∙ e))

  pub reaches : FieldReaches size from to
  reaches = record { found = found; none = λ e w f l t. no_pair w f (sym e ∙ all w f l t); all = all }

target_word : (from : ℕ) (w : Direction) (size f : ℕ) → target_of from w size f < 2 ^ 64
target_word from w size f = rw (target_stride from w size f) (omega arith)

pub one_pair : (size from : ℕ) → size ≤ 2 ^ 61 → from < 2 ^ 64 → OnePair size from
one_pair size from h a u v f g l m e =
    same_pair u v f g (sym (all size from _ h a (target_word from u size f) u f l refl) ∙ all size from _ h a (target_word from u size f) v g m (sym e))

-- ---- instructions

module _ (s : State) (to : ℕ) (d : Direction) (f : ℕ) (a : s.pc < 2 ^ 64) (b : to < 2 ^ 64) where
  pub yz_goes : field_of branch_fields s.pc to ≡ pair d f → YzGoes s to d f
  yz_goes p = record { target = target; branches = branches }
    where
      target : near s d (y_in f) (z_in f) ≡ to
      target =
          let q : (f < branch_fields) × (target_of s.pc d branch_fields f ≡ to) = found branch_fields s.pc to (omega arith) a b d f p in
          ap (target_of s.pc d branch_fields) {x = yz_of (y_in f) (z_in f)} {y = f} (omega arith) ∙ q.1

      branches : (w : Windows) (op x : ℕ) (c : Condition) → Passes w s → arm_of op ≡ control (branch c d) → holds c (reg s x) ≡ true
          → step_of w s op x (y_in f) (z_in f) ≡ refused_by 0 w (goes s to)
      branches w op x c h e t = step_told w s h.admitted (passing w s h) op x (y_in f) (z_in f) (say 0 (goes s to)) (unfold refusal_of in rw e) (unfold plan_of in rw (e, t, target))

  pub xyz_goes : field_of jump_fields s.pc to ≡ pair d f → XyzGoes s to d f
  xyz_goes p = record { target = target; jumps = jumps }
    where
      target : far s d (x_in f) (y_in f) (z_in f) ≡ to
      target =
          let q : (f < jump_fields) × (target_of s.pc d jump_fields f ≡ to) = found jump_fields s.pc to (omega arith) a b d f p in
          ap (target_of s.pc d jump_fields) {x = xyz_of (x_in f) (y_in f) (z_in f)} {y = f} (omega arith) ∙ q.1

      jumps : (w : Windows) (op : ℕ) → Passes w s → arm_of op ≡ control (jump d) → step_of w s op (x_in f) (y_in f) (z_in f) ≡ refused_by 0 w (goes s to)
      jumps w op h e = step_told w s h.admitted (passing w s h) op (x_in f) (y_in f) (z_in f) (say 0 (goes s to)) (unfold refusal_of in rw e) (unfold plan_of in rw (e, target))

pub field_theorem : FieldTheorem
field_theorem = record { reaches = reaches; one_pair = one_pair; yz_goes = yz_goes; xyz_goes = xyz_goes }
