-- Laws of what an arm that touches no memory tells, over plain variables: a reply and the parts that code leaves, from what its callees ensure.
-- 31, GET, PUT, SYNC. Trips and traps: Interrupts of crate exceptions.
use Rattle.model.proofs.Prelude.{ℕ, ◌%◌, ◌+◌, ◌<◌, ◌^◌, ◌≤◌, cond, false, true, List, refl, ◌≡◌, arith, eqb, le-leb, le-ltb, lt-leb, lt-ltb, ne_eqb}
use Rattle.model.proofs.Prelude.{Said, reply_of, made, halted, hides, with_parts, get_special, got, put_refusal, put_special, put_state, sync_of}
use Rattle.model.proofs.Prelude.{unless_hidden, put_most, number_zero, refused_not_zero}
use Rattle.arms.proofs.Prelude.{Reply, Done, Hidden, NoSpecial, SyncIllegal, SyncPrivileged, State, Told, halted_is, next_is}
use Rattle.arms.specs.NoMemoryArms.{get_of}

-- ---- 31, of GET and of PUT

hidden_told : (s : State) (k : ℕ) (d : Said) → hides s.mask k ≡ true → Told (unless_hidden s k d) Hidden (halted s)
unfolding unless_hidden reply_of
hidden_told s k d h = rw h (record { reply_is = refl; state_is = refl })

-- ---- GET

module _ (s : State) (x z : ℕ) where
  pub get_done : (g l : List ℕ) (n : ℕ) → z ≤ 31 → hides s.mask z ≡ false → with_parts s g l ≡ got s x z → n ≡ (s.pc + 4) % 2 ^ 64
      → Told (get_of s x z) Done (made g l n s.halt s.marks s.mask)
  unfolding get_of get_special unless_hidden reply_of
  get_done g l n h u e f = rw (le-ltb 31 z h, u) (record { reply_is = refl; state_is = next_is (with_parts s g l) (got s x z) e n f })

  pub get_hidden : z ≤ 31 → hides s.mask z ≡ true → Told (get_of s x z) Hidden (halted s)
  unfolding get_of get_special
  get_hidden h u = rw (le-ltb 31 z h) (hidden_told s z _ u)

  pub get_none : 31 < z → Told (get_of s x z) NoSpecial s
  unfolding get_of reply_of
  get_none h = rw (lt-ltb 31 z h) (record { reply_is = refl; state_is = refl })

-- ---- PUT

pub put_hidden : (s : State) (x v : ℕ) → hides s.mask x ≡ true → Told (put_special s x v) Hidden (halted s)
unfolding put_special
put_hidden s x v u = hidden_told s x _ u

module _ (s : State) (x v : ℕ) (r : Reply) (g l : List ℕ)
    (e : r ≡ reply_of (put_refusal s x v)) (f : with_parts s g l ≡ cond (eqb (put_refusal s x v) 0) (put_state s x v) s)
    (u : hides s.mask x ≡ false) where
  small : put_refusal s x v ≤ 33
  small = let h = put_most s x v in omega arith

  pub put_done_law : (n : ℕ) → r ≡ Done → n ≡ (s.pc + 4) % 2 ^ 64 → Told (put_special s x v) r (made g l n s.halt s.marks s.mask)
  unfolding put_special unless_hidden
  put_done_law n h q =
      let z : put_refusal s x v ≡ 0 = number_zero _ r small e h in
      rw (u, z) (record { reply_is = rw z at e; state_is = next_is (with_parts s g l) _ (rw z at f) n q })

  pub put_refused : (r ≡ Done → ⊥) → Told (put_special s x v) r (made g l s.pc 1 s.marks s.mask)
  unfolding put_special unless_hidden
  put_refused h =
      let z : eqb (put_refusal s x v) 0 ≡ false = ne_eqb _ 0 (refused_not_zero _ r e h) in
      rw (u, z) (record { reply_is = e; state_is = halted_is (with_parts s g l) _ (rw z at f) })

-- ---- SYNC

module _ (s : State) (n : ℕ) where
  pub sync_illegal : 7 < n → Told (sync_of s n) SyncIllegal (halted s)
  unfolding sync_of reply_of
  sync_illegal h = rw (lt-ltb 7 n h) (record { reply_is = refl; state_is = refl })

  pub sync_privileged : n ≤ 7 → 4 ≤ n → Told (sync_of s n) SyncPrivileged (halted s)
  unfolding sync_of reply_of
  sync_privileged h l = rw (le-ltb 7 n h, le-leb 4 n l) (record { reply_is = refl; state_is = refl })

  pub sync_done : (m : ℕ) → n < 4 → m ≡ (s.pc + 4) % 2 ^ 64 → Told (sync_of s n) Done (made s.general s.special m s.halt s.marks s.mask)
  unfolding sync_of reply_of
  sync_done m h q = rw (le-ltb 7 n (omega arith), lt-leb 4 n h) (record { reply_is = refl; state_is = next_is s s refl m q })
