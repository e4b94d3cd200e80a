-- All tasks lent, in order of number.
use Rattle.model.proofs.Prelude.{suc, zero, ℕ, ◌+◌, ◌<◌, ◌≤◌, List, ap, refl, subst, sym, ◌∙◌, ◌≡◌, arith, get_or, length, ext_get_or, fresh}
use Rattle.claims.proofs.Prelude.{Once, picked, put_back, picked_length, placed_at, placed_length}
use Rattle.claims.specs.OneCall.{Held, struct}
use Rattle.claims.specs.TaskCalls.{TaskMade, TogetherMet, lent_held, lent_made}
use Rattle.claims.specs.AllLent.{numbers_from, AllLent}

numbers_length : (k n : ℕ) → length (numbers_from k n) ≡ n
unfolding numbers_from
numbers_length k zero = refl
numbers_length k (suc n) = ap suc (numbers_length (suc k) n)

numbers_at_law : (k n i : ℕ) → i < n → get_or (numbers_from k n) i 0 ≡ k + i
unfolding numbers_from
numbers_at_law k zero i l = absurd (omega arith)
numbers_at_law k (suc n) zero l = omega arith
numbers_at_law k (suc n) (suc i) l = numbers_at_law (suc k) n i (omega arith) ∙ (omega arith)

numbers_once : (m k n : ℕ) → k + n ≤ m → Once m (numbers_from k n)
unfolding numbers_from Once
numbers_once m k zero l = tt
numbers_once m k (suc n) l = (omega arith, λ i q e. other i q e, numbers_once m (suc k) n (omega arith))
  where
    other : (i : ℕ) → i < length (numbers_from (suc k) n) → get_or (numbers_from (suc k) n) i 0 ≡ k → ⊥
    other i q e =
        let a : get_or (numbers_from (suc k) n) i 0 ≡ suc k + i = numbers_at_law (suc k) n i (subst (λ (x : ℕ). i < x) (numbers_length (suc k) n) q) in
        omega (arith, a, e)

picked_at : {A : Type 0} (d : A) (xs : List A) (k n i : ℕ) → i < n → get_or (picked d xs (numbers_from k n)) i d ≡ get_or xs (k + i) d
unfolding picked numbers_from
picked_at d xs k zero i l = absurd (omega arith)
picked_at {A} d xs k (suc n) zero l = ap (λ (j : ℕ). get_or xs j d) (omega arith)
picked_at {A} d xs k (suc n) (suc i) l = picked_at d xs (suc k) n i (omega arith) ∙ ap (λ (j : ℕ). get_or xs j d) (omega arith)

picked_all : {A : Type 0} (d : A) (xs : List A) (n : ℕ) → length xs ≡ n → picked d xs (numbers_from 0 n) ≡ xs
picked_all {A} d xs n e =
    ext_get_or d (picked d xs (numbers_from 0 n)) xs (long ∙ sym e)
    (λ i l. picked_at d xs 0 n i (subst (λ (x : ℕ). i < x) long l) ∙ ap (λ (j : ℕ). get_or xs j d) (omega arith))
  where
    long : length (picked d xs (numbers_from 0 n)) ≡ n
    long = picked_length d xs (numbers_from 0 n) ∙ numbers_length 0 n

placed_all : {A : Type 0} (d : A) (xs ys : List A) → length ys ≡ length xs → put_back xs (numbers_from 0 (length xs)) ys ≡ ys
placed_all {A} d xs ys e =
    ext_get_or d (put_back xs (numbers_from 0 (length xs)) ys) ys (placed_length xs (numbers_from 0 (length xs)) ys ∙ sym e) (λ i l. at i (subst (λ (x : ℕ). i < x) (placed_length xs (numbers_from 0 (length xs)) ys) l))
  where
    at : (i : ℕ) → i < length xs → get_or (put_back xs (numbers_from 0 (length xs)) ys) i d ≡ get_or ys i d
    at i l =
        let n : get_or (numbers_from 0 (length xs)) i 0 ≡ i = numbers_at_law 0 (length xs) i l ∙ (omega arith) in
        ap (λ (j : ℕ). get_or (put_back xs (numbers_from 0 (length xs)) ys) j d) (sym n)
        ∙ placed_at d xs (numbers_from 0 (length xs)) ys i (numbers_once (length xs) 0 (length xs) (omega arith)) (e ∙ sym (numbers_length 0 (length xs)))
        (subst (λ (x : ℕ). i < x) (sym (numbers_length 0 (length xs))) l)

pub all_lent : AllLent
all_lent hs w e ns q grant c n m =
    let js : List ℕ = numbers_from 0 (length hs) in
    let before : lent_held hs js ≡ hs = picked_all (struct fresh) hs (length hs) refl in
    let after : lent_held c.held js ≡ c.held = picked_all (struct fresh) c.held (length hs) n in
    let its : c ≡ lent_made js c
    = λ i. record { entry = c.entry; reply = c.reply; count = c.count; counts = c.counts; refusals = c.refusals; held = sym after i; window = c.window } in
    record {
      once = numbers_once (length hs) 0 (length hs) (omega arith);
      those = subst (λ (g : List Held). TogetherMet g w e ns q grant (lent_made js c)) (sym before) (subst (λ (d : TaskMade). TogetherMet hs w e ns q grant d) its m);
      others = sym (ap (put_back hs js) after ∙ placed_all (struct fresh) hs c.held n);
    }
