-- Laws of signed counts: what an i64 between −2^26 and 2^26 is as code has it, 4 × a count, and the address that a field's count leads to.
use Rattle.model.proofs.Prelude.{suc, zero, ℕ, ◌%◌, ◌*◌, ◌+◌, ◌-◌, ◌<◌, ◌^◌, ◌≤◌, Bool, cond, false, true, ap, refl, sym, ◌∙◌, ◌≡◌, arith, nat_abs, negsuc, neg_ℤ}
use Rattle.model.proofs.Prelude.{pos, ℤ, ◌*ℤ◌, ◌-ℤ◌, lt_z, mag, eq-eqb, lt-ltb, ltb-true, ne_eqb, w64, target_of, backward, Direction, direction_of, forward}
use mir.Val.{SFits, to_z, of_z}
use mir.ValLaws.{to_z-of_z}
use Rattle.decode.specs.Counts.{count_of, applied, moved_by}

-- a count's bits read again
read_back : (z : ℤ) → mag z < 2 ^ 63 → to_z w64 (of_z w64 z) ≡ z
read_back z h = to_z-of_z w64 z (record { sfits = h })

-- 4 × −(n + 1)
four_back : (n : ℕ) → pos 4 *ℤ negsuc n ≡ negsuc (4 * n + 3)
four_back n = let e : 4 * suc n ≡ suc (4 * n + 3) = omega arith in ap (λ (k : ℕ). neg_ℤ (pos k)) e

-- 4 × a count, as code multiplies
unfoldable pub fourfold : ℤ → ℤ
fourfold z = to_z w64 4 *ℤ to_z w64 (of_z w64 z)

module _ (z : ℤ) (h : mag z < 2 ^ 24) where
  pub fourfold_is : fourfold z ≡ pos 4 *ℤ z
  unfolding fourfold
  fourfold_is = ap (λ (k : ℤ). pos 4 *ℤ k) (read_back z (omega arith))

  pub fourfold_small : mag (fourfold z) < 2 ^ 26
  fourfold_small = rw fourfold_is (go z h)
    where
      go : (k : ℤ) → mag k < 2 ^ 24 → mag (pos 4 *ℤ k) < 2 ^ 26
      go (pos n) l = omega arith
      go (negsuc n) l = rw (four_back n) (omega arith)

-- a negative offset, −(n + 1): its magnitude as code has it
pub record Back (z : ℤ) : Type 0 where
  pub n : ℕ
  pub is : z ≡ negsuc n
  pub small : n < 2 ^ 26
  pub away : pos 0 -ℤ to_z w64 (of_z w64 z) ≡ pos (suc n)
  pub magnitude : to_z w64 (of_z w64 (pos 0 -ℤ to_z w64 (of_z w64 z))) ≡ pos (suc n)

pub back : (z : ℤ) → mag z < 2 ^ 26 → lt_z (to_z w64 (of_z w64 z)) (pos 0) ≡ true → Back z
back (pos n) h t = absurd (let l : n < 0 = ltb-true n 0 (rw (read_back (pos n) (omega arith)) at t) in omega arith)
back (negsuc n) h t =
    let a : pos 0 -ℤ to_z w64 (of_z w64 (negsuc n)) ≡ pos (suc n) = rw (read_back (negsuc n) (omega arith)) (ap pos (omega arith)) in
    record { n = n; is = refl; small = h; away = a; magnitude = rw a (read_back (pos (suc n)) (omega arith)) }

-- an offset that is not negative
pub record Ahead (z : ℤ) : Type 0 where
  pub n : ℕ
  pub is : z ≡ pos n
  pub small : n < 2 ^ 26
  pub magnitude : to_z w64 (of_z w64 z) ≡ pos n

pub ahead : (z : ℤ) → mag z < 2 ^ 26 → lt_z (to_z w64 (of_z w64 z)) (pos 0) ≡ false → Ahead z
ahead (pos n) h t = record { n = n; is = refl; small = h; magnitude = read_back (pos n) (omega arith) }
ahead (negsuc n) h t = absurd (let z : true ≡ false = rw (read_back (negsuc n) (omega arith)) at t in let e : ◌≡◌ {A = ℕ} 0 1 = cc in omega arith)

module _ (a r : ℕ) (z : ℤ) where
  pub applied_back : Back z → r ≡ (a + (2 ^ 64 - nat_abs (to_z w64 (of_z w64 (pos 0 -ℤ to_z w64 (of_z w64 z)))))) % 2 ^ 64 → r ≡ applied a z
  unfolding applied
  applied_back b e = e ∙ ap (λ (k : ℤ). (a + (2 ^ 64 - nat_abs k)) % 2 ^ 64) b.magnitude ∙ ap (applied a) (sym b.is)

  pub applied_ahead : Ahead z → r ≡ (a + nat_abs (to_z w64 (of_z w64 z))) % 2 ^ 64 → r ≡ applied a z
  unfolding applied
  applied_ahead b e = e ∙ ap (λ (k : ℤ). (a + nat_abs k) % 2 ^ 64) b.magnitude ∙ ap (applied a) (sym b.is)

-- the offset that is applied is 4 × the count
pub moved : (a r : ℕ) (z : ℤ) → mag z < 2 ^ 24 → r ≡ applied a (fourfold z) → r ≡ moved_by a z
unfolding moved_by
moved a r z h e = e ∙ ap (applied a) (fourfold_is z h)

-- ---- a field of `size` values

plain : (f : ℕ) → f < 2 ^ 24 → to_z w64 f ≡ pos f
plain f h = read_back (pos f) (omega arith)

-- field − size
behind : (f size : ℕ) → f < size → size ≤ 2 ^ 24 → to_z w64 f -ℤ to_z w64 size ≡ negsuc (size - suc f)
behind f zero l h = absurd (omega arith)
behind f (suc m) l h =
    rw (plain f (omega arith), read_back (pos (suc m)) (omega arith))
    (ap (λ (t : Bool). cond t (negsuc (suc m - suc f)) (pos (f - suc m))) (lt-ltb f (suc m) l))

module _ (op size f : ℕ) (l : f < size) (h : size ≤ 2 ^ 24) where
  pub behind_fits : SFits w64 (to_z w64 f -ℤ to_z w64 size)
  behind_fits = rw (behind f size l h) (record { sfits = omega arith })

  pub count_ahead : op % 2 ≡ 0 → to_z w64 f ≡ count_of (direction_of op) size f
  unfolding count_of
  count_ahead e = plain f (omega arith) ∙ sym (ap (λ (t : Bool). count_of (cond t forward backward) size f) (eq-eqb (op % 2) 0 e))

  pub count_back : (op % 2 ≡ 0 → ⊥) → to_z w64 (of_z w64 (to_z w64 f -ℤ to_z w64 size)) ≡ count_of (direction_of op) size f
  unfolding count_of
  count_back e =
      rw (behind f size l h) (read_back (negsuc (size - suc f)) (omega arith))
      ∙ sym (ap (λ (t : Bool). count_of (cond t forward backward) size f) (ne_eqb (op % 2) 0 e))

module _ (w : Direction) (size f : ℕ) (l : f < size) (h : size ≤ 2 ^ 24) where
  count_small : mag (count_of w size f) < 2 ^ 24
  unfolding count_of
  count_small = go w
    where
      go : (u : Direction) → mag (count_of u size f) < 2 ^ 24
      go forward = omega arith
      go backward = omega arith

  -- a count that was passed on
  module _ (z : ℤ) (e : z ≡ count_of w size f) where
    passed : to_z w64 (of_z w64 z) ≡ count_of w size f
    passed = rw e (read_back (count_of w size f) (let b : mag (count_of w size f) < 2 ^ 24 = count_small in omega arith))

    pub passed_small : mag (to_z w64 (of_z w64 z)) < 2 ^ 24
    passed_small = rw passed count_small

    pub passed_target : (a r : ℕ) → r ≡ moved_by a (to_z w64 (of_z w64 z)) → r ≡ target_of a w size f
    unfolding count_of applied moved_by target_of
    passed_target a r q = q ∙ ap (moved_by a) passed ∙ go w
      where
        go : (u : Direction) → moved_by a (count_of u size f) ≡ target_of a u size f
        go forward = refl
        go backward =
            let n : suc (4 * (size - suc f) + 3) ≡ 4 * (size - f) = omega arith in
            ap (applied a) (four_back (size - suc f)) ∙ ap (λ (k : ℕ). (a + (2 ^ 64 - k)) % 2 ^ 64) n
