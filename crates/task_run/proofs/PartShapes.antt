-- The part of B that is a task's own as a window of its own beside A, by shapes alone: it obeys the windows' rules, and an octabyte lies in it just where it
-- lies in B and is not foreign.
use Rattle.model.proofs.Prelude.{ℕ, ◌%◌, ◌+◌, ◌-◌, ◌<◌, ◌^◌, ◌≤◌, Bool, cond, false, not, true, ◌&&◌, ◌||◌, inl, inr, ◌⊎◌, ap, refl, sym, ◌∙◌, ◌≡◌, dec_le}
use Rattle.model.proofs.Prelude.{arith, eqb, leb, ltb, eq-eqb, eqb-true, le-leb, le-ltb, leb-true, lt-leb, lt-ltb, has, inside, offset, ruled, ruled_one, Shape}
use Rattle.model.proofs.Prelude.{Shapes, shares, window_max, octa, refusing, unruled_by, Ruled, ruled_b, windows_apart, and_left, and_right, judged_inside}
use Rattle.model.proofs.Prelude.{none_unruled, unruled_none}
use Rattle.task_run.proofs.Prelude.{part_ruled, foreign, Own, owns, refusing_in}
use Rattle.model.specs.Apart.{Common}

-- ---- the part

pub record Part (n : ℕ) (p : Own) : Type 0 where
  pub start_octas : p.start % 8 ≡ 0
  pub size_octas : p.size % 8 ≡ 0
  pub within : p.start + p.size ≤ n

pub part_ruled_law : (n : ℕ) (p : Own) → part_ruled n p ≡ true → Part n p
unfolding part_ruled
part_ruled_law n p e =
    let f : (eqb (p.size % 8) 0 && leb (p.start + p.size) n) ≡ true = and_right (eqb (p.start % 8) 0) _ e in
    record {
      start_octas = eqb-true _ _ (and_left (eqb (p.start % 8) 0) _ e);
      size_octas = eqb-true _ _ (and_left (eqb (p.size % 8) 0) _ f);
      within = leb-true _ _ (and_right (eqb (p.size % 8) 0) _ f);
    }

-- ---- distances

plain : (b x : ℕ) → b < 2 ^ 64 → offset b x ≡ (octa x + (2 ^ 64 - b)) % 2 ^ 64
unfolding offset
plain b x h = let e : b % 2 ^ 64 ≡ b = omega arith in rw e

word : (x : ℕ) → octa x < 2 ^ 64
unfolding octa
word x = omega arith

octas : (b x : ℕ) → b % 8 ≡ 0 → b < 2 ^ 64 → offset b x % 8 ≡ 0
octas b x a h = rw (plain b x h) (unfold octa in omega arith)

-- on the circle: what is d from the base is d less the start from the part's base, or nearly a whole turn
nearer : (o b s : ℕ) → o < 2 ^ 64 → b < 2 ^ 64 → s < 2 ^ 60 → s ≤ (o + (2 ^ 64 - b)) % 2 ^ 64
    → (o + (2 ^ 64 - (b + s) % 2 ^ 64)) % 2 ^ 64 + s ≡ (o + (2 ^ 64 - b)) % 2 ^ 64
nearer o b s x y z h = omega arith

behind : (o b s : ℕ) → o < 2 ^ 64 → b < 2 ^ 64 → s < 2 ^ 60 → (o + (2 ^ 64 - b)) % 2 ^ 64 < s
    → 2 ^ 60 ≤ (o + (2 ^ 64 - (b + s) % 2 ^ 64)) % 2 ^ 64
behind o b s x y z h = omega arith

pub and_none : (b : Bool) → (b && false) ≡ false
and_none true = refl
and_none false = refl

last : (a b : Bool) → (a && (b && false)) ≡ false
last a true = and_none a
last a false = and_none a

module _ (b n s z x : ℕ) (al : b % 8 ≡ 0) (wo : b < 2 ^ 64) (m : n < 2 ^ 60) (sa : s % 8 ≡ 0) (za : z % 8 ≡ 0) (k : s + z ≤ n) where
  further : s ≤ offset b x → offset ((b + s) % 2 ^ 64) x + s ≡ offset b x
  further h = rw (plain ((b + s) % 2 ^ 64) x (omega arith), plain b x wo) (nearer (octa x) b s (word x) wo (omega arith) (rw (plain b x wo) at h))

  before : offset b x < s → 2 ^ 60 ≤ offset ((b + s) % 2 ^ 64) x
  before h = rw (plain ((b + s) % 2 ^ 64) x (omega arith)) (behind (octa x) b s (word x) wo (omega arith) (rw (plain b x wo) at h))

  part_holds : leb (offset ((b + s) % 2 ^ 64) x + 8) z ≡ (leb (offset b x + 8) n && (leb s (offset b x) && ltb (offset b x) (s + z)))
  part_holds = go (dec_le s (offset b x)) (dec_le (offset b x + 8) (s + z))
    where
      go : Dec (s ≤ offset b x) → Dec (offset b x + 8 ≤ s + z)
          → leb (offset ((b + s) % 2 ^ 64) x + 8) z ≡ (leb (offset b x + 8) n && (leb s (offset b x) && ltb (offset b x) (s + z)))
      go (no f) g =
          let e : 2 ^ 60 ≤ offset ((b + s) % 2 ^ 64) x = before (omega arith) in
          rw (lt-leb (offset ((b + s) % 2 ^ 64) x + 8) z (omega arith), lt-leb s (offset b x) (omega arith)) (sym (and_none (leb (offset b x + 8) n)))
      go (yes f) (yes g) =
          let e : offset ((b + s) % 2 ^ 64) x + s ≡ offset b x = further f in
          rw (le-leb (offset ((b + s) % 2 ^ 64) x + 8) z (omega arith), le-leb (offset b x + 8) n (omega arith), le-leb s (offset b x) f, lt-ltb (offset b x) (s + z) (omega arith))
      go (yes f) (no g) =
          let e : offset ((b + s) % 2 ^ 64) x + s ≡ offset b x = further f in
          let d : offset b x % 8 ≡ 0 = octas b x al wo in
          rw (lt-leb (offset ((b + s) % 2 ^ 64) x + 8) z (omega arith), le-ltb (offset b x) (s + z) (omega arith)) (sym (last (leb (offset b x + 8) n) (leb s (offset b x))))

starts : (p : Own) (d : ℕ) → owns p d ≡ true → p.start ≤ d
unfolding owns
starts p d e = leb-true _ _ (and_left (leb p.start d) _ e)

roomy : (s : Shape) (x : ℕ) → has s x ≡ true → offset s.from x + 8 ≤ s.size
unfolding has
roomy s x e = leb-true _ _ e

-- ---- shapes

-- A, and the part as a window of its own
abbrev pub part_shapes : Own → Shapes → Shapes
part_shapes p w = record { a = w.a; b = record { from = (w.b.from + p.start) % 2 ^ 64; size = p.size } }

-- an octabyte that lies in the part, and so in B, the start further from B's base
pub record InPart (p : Own) (w : Shapes) (x : ℕ) : Type 0 where
  pub in_part : has (part_shapes p w).b x ≡ true
  pub in_b : has w.b x ≡ true
  pub further_on : offset w.b.from x ≡ p.start + offset (part_shapes p w).b.from x
  pub room : offset (part_shapes p w).b.from x + 8 ≤ p.size

-- one that lies in A alone
pub record InA (p : Own) (w : Shapes) (x : ℕ) : Type 0 where
  pub not_in_part : has (part_shapes p w).b x ≡ false
  pub not_in_b : has w.b x ≡ false

module _ (p : Own) (w : Shapes) (u : unruled_by w ≡ 0) (k : Part w.b.size p) where
  fine : (ruled w ≡ true) × (shares w ≡ false)
  fine = unruled_none w u

  alone : (x : ℕ) → has w.a x ≡ true → has w.b x ≡ false
  alone = windows_apart.apart w fine.0 fine.1

  pub part_has : (x : ℕ) → has (part_shapes p w).b x ≡ (has w.b x && owns p (offset w.b.from x))
  unfolding has owns
  part_has x =
      let r : Ruled w.b = ruled_b w fine.0 in
      part_holds w.b.from w.b.size p.start p.size x r.base_aligned r.base_word r.size_most k.start_octas k.size_octas k.within

  part_most : p.size ≤ window_max
  part_most = unfold ruled ruled_one in (
      let e : ruled_one w.b ≡ true = and_right (ruled_one w.a) _ fine.0 in
      let f : leb w.b.size window_max ≡ true = and_right (eqb (w.b.size % 8) 0) _ (and_right (ltb w.b.from (2 ^ 64)) _ (and_right (eqb (w.b.from % 8) 0) _ e)) in
      let l : w.b.size ≤ window_max = leb-true _ _ f in
      let m : p.start + p.size ≤ w.b.size = k.within in
      omega arith)

  part_rules : ruled (part_shapes p w) ≡ true
  unfolding ruled ruled_one
  part_rules =
      let r : Ruled w.b = ruled_b w fine.0 in
      let a : w.b.from % 8 ≡ 0 = r.base_aligned in
      let s : p.start % 8 ≡ 0 = k.start_octas in
      let z : p.size % 8 ≡ 0 = k.size_octas in
      rw (
        and_left (ruled_one w.a) _ fine.0,
        eq-eqb ((w.b.from + p.start) % 2 ^ 64 % 8) 0 (omega arith),
        lt-ltb ((w.b.from + p.start) % 2 ^ 64) (2 ^ 64) (omega arith),
        eq-eqb (p.size % 8) 0 z,
        le-leb p.size window_max part_most,
      )

  part_apart : (t : Bool) → shares (part_shapes p w) ≡ t → t ≡ false
  part_apart true e =
      let c : Common (part_shapes p w) = windows_apart.common (part_shapes p w) part_rules e in
      sym (and_left (has w.b c.address) _ (sym (part_has c.address) ∙ c.in_b)) ∙ alone c.address c.in_a
  part_apart false e = refl

  pub part_unruled : unruled_by (part_shapes p w) ≡ 0
  part_unruled = none_unruled (part_shapes p w) part_rules (part_apart (shares (part_shapes p w)) refl)

  -- ---- judging

  -- 32 is the whole of the difference
  pub judged_in : (x : ℕ) → refusing_in p w x ≡ cond (foreign p w x) 32 (refusing (part_shapes p w) x)
  unfolding refusing_in refusing inside foreign
  judged_in x = rw (part_has x) (go (has w.b x) (has w.a x) (owns p (offset w.b.from x)))
    where
      go : (b a o : Bool) → ◌≡◌ {A = ℕ} (cond (b && not o) 32 (cond (b || a) 0 6)) (cond (b && not o) 32 (cond ((b && o) || a) 0 6))
      go true a true = refl
      go true a false = refl
      go false a o = refl

  -- nothing foreign passes
  pub passes_own : (x : ℕ) → refusing (part_shapes p w) x ≡ 0 → foreign p w x ≡ false
  unfolding foreign
  passes_own x e = unfold inside in (go (has w.b x) (has w.a x) (owns p (offset w.b.from x)) (alone x)
      (ap (λ (b : Bool). b || has w.a x) (sym (part_has x)) ∙ judged_inside (part_shapes p w) x e))
    where
      go : (b a o : Bool) → (a ≡ true → b ≡ false) → ((b && o) || a) ≡ true → (b && not o) ≡ false
      go true a true f h = refl
      go true a false f h = f h
      go false a o f h = refl

  pub sides : (x : ℕ) → refusing (part_shapes p w) x ≡ 0 → InPart p w x ⊎ InA p w x
  unfolding inside
  sides x e = go (has (part_shapes p w).b x) refl (judged_inside (part_shapes p w) x e)
    where
      go : (t : Bool) → has (part_shapes p w).b x ≡ t → (t || has w.a x) ≡ true → InPart p w x ⊎ InA p w x
      go true h i =
          let o : (has w.b x && owns p (offset w.b.from x)) ≡ true = sym (part_has x) ∙ h in
          let l : p.start ≤ offset w.b.from x = starts p (offset w.b.from x) (and_right (has w.b x) _ o) in
          let r : Ruled w.b = ruled_b w fine.0 in
          let q : offset ((w.b.from + p.start) % 2 ^ 64) x + p.start ≡ offset w.b.from x
          = further w.b.from w.b.size p.start p.size x r.base_aligned r.base_word r.size_most k.start_octas k.size_octas k.within l in
          inl (record { in_part = h; in_b = and_left (has w.b x) _ o; further_on = omega arith; room = roomy (part_shapes p w).b x h })
      go false h i = inr (record { not_in_part = h; not_in_b = alone x i })
