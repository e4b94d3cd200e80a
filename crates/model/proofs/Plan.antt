-- Laws of plans, by induction over plans: for every step that will ever be added, over any lawful store.
-- In order: lists of addresses; properties of answers; what a plan touches; equal memories; kept octabytes; the needs; runs of stores; plans under a map.
use Rattle.model.proofs.Logic.{suc, zero, ℕ, ◌*◌, ◌+◌, ◌≤◌, Bool, cond, false, true, List, [], ◌++◌, ◌∷◌, ap, refl, subst, sym, ◌∙◌, ◌≡◌}
use Rattle.model.proofs.Logic.{ℕ_discrete, arith, eqb, length, eqb-true}
use Rattle.model.specs.Octa.{octa}
use Rattle.model.specs.Memory.{Store}
use Rattle.model.specs.Plan.{Plan, answer, read, Outcome, ups, worst, missing, clear, All, Off, look, looks, puts, needs, wider_needs, perform, Agree, named, map_plan, map_outcome}
use Rattle.model.proofs.Bools.{on, on_both}
use Rattle.model.proofs.Memory.{Lawful}

-- ---- lists of addresses

pub All_left : (P : ℕ → Type 0) (xs ys : List ℕ) → All P (xs ++ ys) → All P xs
unfolding All
All_left P [] ys h = tt
All_left P (x ∷ xs) ys h = (h.0, All_left P xs ys h.1)

pub All_right : (P : ℕ → Type 0) (xs ys : List ℕ) → All P (xs ++ ys) → All P ys
unfolding All
All_right P [] ys h = h
All_right P (x ∷ xs) ys h = All_right P xs ys h.1

pub All_both : (P : ℕ → Type 0) (xs ys : List ℕ) → All P xs → All P ys → All P (xs ++ ys)
unfolding All
All_both P [] ys h k = k
All_both P (x ∷ xs) ys h k = (h.0, All_both P xs ys h.1 k)

pub All_map : (P Q : ℕ → Type 0) (xs : List ℕ) → ((a : ℕ) → P a → Q a) → All P xs → All Q xs
unfolding All
All_map P Q [] f h = tt
All_map P Q (x ∷ xs) f h = (f x h.0, All_map P Q xs f h.1)

pub All_zip : (P Q R : ℕ → Type 0) (xs : List ℕ) → ((a : ℕ) → P a → Q a → R a) → All P xs → All Q xs → All R xs
unfolding All
All_zip P Q R [] f h k = tt
All_zip P Q R (x ∷ xs) f h k = (f x h.0 k.0, All_zip P Q R xs f h.1 k.1)

pub All_of : (P : ℕ → Type 0) (xs : List ℕ) → ((a : ℕ) → P a) → All P xs
unfolding All
All_of P [] f = tt
All_of P (x ∷ xs) f = (f x, All_of P xs f)

-- a shorter run
pub All_ups : (P : ℕ → Type 0) (a n k : ℕ) → k ≤ n → All P (ups a n) → All P (ups a k)
unfolding All ups
All_ups P a n zero l h = tt
All_ups P a zero (suc k) l h = absurd (omega arith)
All_ups P a (suc n) (suc k) l h = (h.0, All_ups P (a + 8) n k (omega arith) h.1)

-- a run that passes: what is stored is no more than what is needed
passed_off : (P : ℕ → Type 0) (a n k : ℕ) (xs : List ℕ) (b : Bool) → All P (cond b (ups a n) xs) → k ≤ n → All P (cond b (ups a k) [])
unfolding All
passed_off P a n k xs true h l = All_ups P a n k l h
passed_off P a n k xs false h l = tt

-- the missing octabytes of a run are octabytes of the run
missing_off : (P : ℕ → Type 0) (j : ℕ → ℕ) (n a : ℕ) → All P (ups a n) → All P (missing j a n)
unfolding missing All ups
missing_off P j zero a h = tt
missing_off P j (suc n) a h = on (λ (xs : List ℕ). All P (xs ++ missing j (a + 8) n)) (eqb (j a) 0) (λ e. missing_off P j n (a + 8) h.1) (λ e. (h.0, missing_off P j n (a + 8) h.1))

pub worst_head : (j : ℕ → ℕ) (a n : ℕ) → worst j a (suc n) ≡ 0 → j a ≡ 0
unfolding worst
worst_head j a n e = omega arith

pub worst_tail : (j : ℕ → ℕ) (a n : ℕ) → worst j a (suc n) ≡ 0 → worst j (a + 8) n ≡ 0
unfolding worst
worst_tail j a n e = omega arith

pub ups_judged : (j : ℕ → ℕ) (n a : ℕ) → worst j a n ≡ 0 → All (λ b. j b ≡ 0) (ups a n)
unfolding All ups
ups_judged j zero a e = tt
ups_judged j (suc n) a e = (worst_head j a n e, ups_judged j n (a + 8) (worst_tail j a n e))

-- ---- properties of answers

-- of every state that a plan may answer with, whatever it reads
unfoldable pub Always : {S : Type 0} → (S → Type 0) → Plan S → Type 0
Always P (answer r t a vs) = P t
Always P (read q a n k) = (vs : List ℕ) → Always P (k vs)

pub Always_map : {S : Type 0} (P Q : S → Type 0) → ((t : S) → P t → Q t) → (p : Plan S) → Always P p → Always Q p
unfolding Always
Always_map P Q f (answer r t a vs) h = f t h
Always_map P Q f (read q a n k) h = λ vs. Always_map P Q f (k vs) (h vs)

pub Always_of : {S : Type 0} (P : S → Type 0) → ((t : S) → P t) → (p : Plan S) → Always P p
unfolding Always
Always_of P f (answer r t a vs) = f t
Always_of P f (read q a n k) = λ vs. Always_of P f (k vs)

pub Always_mapped : {S T : Type 0} (P : T → Type 0) (f : S → T) (p : Plan S) → Always (λ t. P (f t)) p → Always P (map_plan f p)
unfolding Always map_plan
Always_mapped P f (answer r t a vs) h = h
Always_mapped P f (read q a n k) h = λ vs. Always_mapped P f (k vs) (h vs)

module _ {M Sh : Type 0} (st : Store M Sh) where
  -- what a plan comes to read or write: its needs without the missing ones
  unfoldable pub touches : {S : Type 0} → (ℕ → ℕ) → Plan S → M → List ℕ
  touches j (answer r t a vs) m = cond (clear j a (length vs)) (ups a (length vs)) []
  touches j (read q a n k) m = cond (clear j a n) (ups a n ++ touches j (k (looks st m a n)) m) []

  -- it has passed the judge
  pub touches_judged : {S : Type 0} (j : ℕ → ℕ) (p : Plan S) (m : M) → All (λ a. j a ≡ 0) (touches j p m)
  unfolding touches
  touches_judged j (answer r t a vs) m =
      on (All (λ b. j b ≡ 0)) (clear j a (length vs)) (λ e. ups_judged j (length vs) a (eqb-true _ _ e)) (λ e. unfold All in tt)
  touches_judged j (read q a n k) m =
      on (All (λ b. j b ≡ 0)) (clear j a n) (λ e. All_both _ (ups a n) _ (ups_judged j n a (eqb-true _ _ e)) (touches_judged j (k (looks st m a n)) m))
      (λ e. unfold All in tt)

  -- the octabytes of F are as they were
  pub record Kept (F : ℕ → Type 0) (m n : M) : Type 0 where
    pub shape_kept : st.shape n ≡ st.shape m
    pub octa_kept : (a : ℕ) → F (octa a) → st.raw n a ≡ st.raw m a

  pub record Same {S : Type 0} (F : ℕ → Type 0) (o p : Outcome S M) : Type 0 where
    pub reply_same : o.reply ≡ p.reply
    pub state_same : o.state ≡ p.state
    pub memory_same : Agree st F o.memory p.memory

  -- a judge passes nothing that lies outside
  abbrev pub Sound : (ℕ → ℕ) → Sh → Type 0
  Sound j s = (a : ℕ) → j a ≡ 0 → st.inside s a ≡ true

module _ {M Sh : Type 0} (st : Store M Sh) (law : Lawful st) where
  pub perform_always : {S : Type 0} (P : S → Type 0) (j : ℕ → ℕ) (s : S) (p : Plan S) (m : M) → P s → Always P p → P (perform st j s p m).state
  unfolding perform Always
  perform_always {S} P j s (answer r t a vs) m h q = on {A = Outcome S M} (λ o. P o.state) (clear j a (length vs)) (λ e. q) (λ e. h)
  perform_always {S} P j s (read q a n k) m h x =
      on {A = Outcome S M} (λ o. P o.state) (clear j a n) (λ e. perform_always P j s (k (looks st m a n)) m h (x (looks st m a n))) (λ e. h)

  -- ---- readings of the needs

  -- what holds of the needs holds of what is touched
  pub touches_off : {S : Type 0} (P : ℕ → Type 0) (j : ℕ → ℕ) (p : Plan S) (m : M) → All P (needs st j p m) → All P (touches st j p m)
  unfolding needs touches
  touches_off P j (answer r t a vs) m h = passed_off P a _ (length vs) _ (clear j a (length vs)) h (omega arith)
  touches_off P j (read q a n k) m h =
      on_both (λ xs ys. All P xs → All P ys) (clear j a n)
      (λ e f. All_both P (ups a n) _ (All_left P (ups a n) _ f) (touches_off P j (k (looks st m a n)) m (All_right P (ups a n) _ f)))
      (λ e f. unfold All in tt) h

  -- and what holds of the wider needs holds of the needs
  pub wider_off : {S : Type 0} (P : ℕ → Type 0) (j : ℕ → ℕ) (p : Plan S) (m : M) → All P (wider_needs st j p m) → All P (needs st j p m)
  unfolding needs wider_needs
  wider_off P j (answer r t a vs) m h = on (All P) (clear j a (length vs)) (λ e. h) (λ e. missing_off P j (length vs) a h)
  wider_off P j (read q a n k) m h =
      on_both (λ xs ys. All P xs → All P ys) (clear j a n)
      (λ e f. All_both P (ups a n) _ (All_left P (ups a n) _ f) (wider_off P j (k (looks st m a n)) m (All_right P (ups a n) _ f)))
      (λ e f. missing_off P j n a f) h

  -- ---- two memories that agree outside F, and a plan that touches nothing of F

  module _ (F : ℕ → Type 0) where
    pub looks_agree : (n : ℕ) (v w : M) (a : ℕ) → Agree st F v w → All (Off F) (ups a n) → looks st v a n ≡ looks st w a n
    unfolding looks All ups look
    looks_agree zero v w a g f = refl
    looks_agree (suc n) v w a g f = cc (g.rest_same a f.0, looks_agree n v w (a + 8) g f.1)

    pub put_agree : (v w : M) (a x : ℕ) → Agree st F v w → st.inside (st.shape v) a ≡ true → Agree st F (st.put v a x) (st.put w a x)
    put_agree v w a x g h = record {
      shape_same = law.put_shape v a x ∙ g.shape_same ∙ sym (law.put_shape w a x);
      rest_same = λ b f. go b f (ℕ_discrete (octa a) (octa b));
    }
      where
        go : (b : ℕ) → Off F b → Dec (octa a ≡ octa b) → st.raw (st.put v a x) b ≡ st.raw (st.put w a x) b
        go b f (yes e) = law.put_same v a b x h e ∙ sym (law.put_same w a b x (rw (← g.shape_same) h) e)
        go b f (no n) = law.put_other v a b x n ∙ g.rest_same b f ∙ sym (law.put_other w a b x n)

    pub puts_agree : (j : ℕ → ℕ) (vs : List ℕ) (v w : M) (a : ℕ) → Sound st j (st.shape v) → Agree st F v w → worst j a (length vs) ≡ 0 → Agree st F (puts st v a vs) (puts st w a vs)
    unfolding puts
    puts_agree j [] v w a snd g h = g
    puts_agree j (x ∷ vs) v w a snd g h =
        puts_agree j vs (st.put v a x) (st.put w a x) (a + 8) (λ b q. rw (law.put_shape v a x) (snd b q))
        (put_agree v w a x g (snd a (worst_head j a (length vs) h))) (worst_tail j a (length vs) h)

    module _ {S : Type 0} (j : ℕ → ℕ) (s : S) where
      pub perform_agree : (p : Plan S) (v w : M) → Sound st j (st.shape v) → Agree st F v w → All (Off F) (touches st j p v) → Same st F (perform st j s p v) (perform st j s p w)
      unfolding perform touches
      perform_agree (answer r t a vs) v w snd g f =
          on_both (Same st F) (clear j a (length vs))
          (λ e. record { reply_same = refl; state_same = refl; memory_same = puts_agree j vs v w a snd g (eqb-true _ _ e) })
          (λ e. record { reply_same = refl; state_same = refl; memory_same = g })
      perform_agree (read q a n k) v w snd g f =
          on_both (Same st F) (clear j a n)
          (λ e. rw (← (looks_agree n v w a g (All_left (Off F) (ups a n) _ (rw e at f))))
          (perform_agree (k (looks st v a n)) v w snd g (All_right (Off F) (ups a n) _ (rw e at f))))
          (λ e. record { reply_same = refl; state_same = refl; memory_same = g })

      pub touches_agree : (p : Plan S) (v w : M) → Agree st F v w → All (Off F) (touches st j p v) → touches st j p v ≡ touches st j p w
      unfolding touches
      touches_agree (answer r t a vs) v w g f = refl
      touches_agree (read q a n k) v w g f =
          on_both (λ (xs ys : List ℕ). xs ≡ ys) (clear j a n)
          (λ e. rw (← (looks_agree n v w a g (All_left (Off F) (ups a n) _ (rw e at f))))
          (ap (λ (l : List ℕ). ups a n ++ l) (touches_agree (k (looks st v a n)) v w g (All_right (Off F) (ups a n) _ (rw e at f)))))
          (λ e. refl)

      pub needs_agree : (p : Plan S) (v w : M) → Agree st F v w → All (Off F) (touches st j p v) → needs st j p v ≡ needs st j p w
      unfolding touches needs
      needs_agree (answer r t a vs) v w g f = refl
      needs_agree (read q a n k) v w g f =
          on_both (λ (xs ys : List ℕ). xs ≡ ys) (clear j a n)
          (λ e. rw (← (looks_agree n v w a g (All_left (Off F) (ups a n) _ (rw e at f))))
          (ap (λ (l : List ℕ). ups a n ++ l) (needs_agree (k (looks st v a n)) v w g (All_right (Off F) (ups a n) _ (rw e at f)))))
          (λ e. refl)

    -- ---- what is not touched is kept

    pub kept_refl : (v : M) → Kept st F v v
    kept_refl v = record { shape_kept = refl; octa_kept = λ a f. refl }

    pub kept_trans : (u v w : M) → Kept st F u v → Kept st F v w → Kept st F u w
    kept_trans u v w p q = record { shape_kept = q.shape_kept ∙ p.shape_kept; octa_kept = λ a f. q.octa_kept a f ∙ p.octa_kept a f }

    pub puts_kept : (vs : List ℕ) (v : M) (a : ℕ) → All (Off F) (ups a (length vs)) → Kept st F v (puts st v a vs)
    unfolding puts All ups
    puts_kept [] v a f = kept_refl v
    puts_kept (x ∷ vs) v a f = kept_trans v (st.put v a x) (puts st (st.put v a x) (a + 8) vs)
        (record { shape_kept = law.put_shape v a x; octa_kept = λ b g. law.put_other v a b x (λ e. f.0 (subst F (sym e) g)) })
        (puts_kept vs (st.put v a x) (a + 8) f.1)

    pub perform_kept : {S : Type 0} (j : ℕ → ℕ) (s : S) (p : Plan S) (v : M) → All (Off F) (touches st j p v) → Kept st F v (perform st j s p v).memory
    unfolding perform touches
    perform_kept {S} j s (answer r t a vs) v f =
        on {A = Outcome S M} (λ o. Kept st F v o.memory) (clear j a (length vs)) (λ e. puts_kept vs v a (rw e at f)) (λ e. kept_refl v)
    perform_kept {S} j s (read q a n k) v f =
        on {A = Outcome S M} (λ o. Kept st F v o.memory) (clear j a n)
        (λ e. perform_kept j s (k (looks st v a n)) v (All_right (Off F) (ups a n) _ (rw e at f))) (λ e. kept_refl v)

  pub puts_shape : (vs : List ℕ) (v : M) (a : ℕ) → st.shape (puts st v a vs) ≡ st.shape v
  puts_shape vs v a = (puts_kept (λ o. ⊥) vs v a (All_of _ (ups a (length vs)) (λ b x. x))).shape_kept

  pub perform_shape : {S : Type 0} (j : ℕ → ℕ) (s : S) (p : Plan S) (v : M) → st.shape (perform st j s p v).memory ≡ st.shape v
  perform_shape j s p v = (perform_kept (λ o. ⊥) j s p v (All_of _ (touches st j p v) (λ b x. x))).shape_kept

-- ---- runs of stores

module _ {M Sh : Type 0} (st : Store M Sh) where
  pub puts_append : (m : M) (a : ℕ) (us vs : List ℕ) → puts st m a (us ++ vs) ≡ puts st (puts st m a us) (a + 8 * length us) vs
  unfolding puts
  puts_append m a [] vs = ap (λ (k : ℕ). puts st m k vs) (omega arith)
  puts_append m a (u ∷ us) vs = puts_append (st.put m a u) (a + 8) us vs ∙ ap (λ (k : ℕ). puts st (puts st (st.put m a u) (a + 8) us) k vs) (omega arith)

  pub puts_more : (m : M) (a : ℕ) (vs : List ℕ) (v : ℕ) → puts st m a (vs ++ (v ∷ [])) ≡ st.put (puts st m a vs) (a + 8 * length vs) v
  puts_more m a vs v = puts_append m a vs (v ∷ []) ∙ (unfold puts in refl)

-- ---- plans under a map

cond_map : {S T M : Type 0} (f : S → T) (b : Bool) (x y : Outcome S M) → cond b (map_outcome f x) (map_outcome f y) ≡ map_outcome f (cond b x y)
cond_map f true x y = refl
cond_map f false x y = refl

cond_left : {S M : Type 0} (f : S → S) (b : Bool) (u x y : Outcome S M) → (f x.state ≡ x.state → u ≡ x)
    → f (cond {A = Outcome S M} b x y).state ≡ (cond {A = Outcome S M} b x y).state → cond b u y ≡ cond b x y
cond_left f true u x y k h = k h
cond_left f false u x y k h = refl

module _ {M Sh : Type 0} (st : Store M Sh) where
  pub perform_map : {S T : Type 0} (f : S → T) (j : ℕ → ℕ) (s : S) (p : Plan S) (m : M)
      → perform st j (f s) (map_plan f p) m ≡ map_outcome f (perform st j s p m)
  unfolding perform map_plan map_outcome
  perform_map f j s (answer r t a vs) m = cond_map f (clear j a (length vs)) (record { reply = r; state = t; memory = puts st m a vs }) (record { reply = worst j a (length vs); state = s; memory = m })
  perform_map f j s (read q a n k) m =
      ap (λ (o : Outcome _ M). cond (clear j a n) o (record { reply = named q (worst j a n); state = f s; memory = m })) (perform_map f j s (k (looks st m a n)) m)
      ∙ cond_map f (clear j a n) (perform st j s (k (looks st m a n)) m) (record { reply = named q (worst j a n); state = s; memory = m })

  pub needs_map : {S T : Type 0} (f : S → T) (j : ℕ → ℕ) (p : Plan S) (m : M) → needs st j (map_plan f p) m ≡ needs st j p m
  unfolding needs map_plan
  needs_map f j (answer r t a vs) m = refl
  needs_map f j (read q a n k) m = λ i. cond (clear j a n) (ups a n ++ needs_map f j (k (looks st m a n)) m i) (missing j a n)

  -- a map that leaves the state that is reached
  pub perform_left : {S : Type 0} (f : S → S) (j : ℕ → ℕ) (s : S) (p : Plan S) (m : M)
      → f (perform st j s p m).state ≡ (perform st j s p m).state → perform st j s (map_plan f p) m ≡ perform st j s p m
  unfolding perform map_plan
  perform_left f j s (answer r t a vs) m h =
      cond_left f (clear j a (length vs)) (record { reply = r; state = f t; memory = puts st m a vs }) (record { reply = r; state = t; memory = puts st m a vs })
      (record { reply = worst j a (length vs); state = s; memory = m }) (λ e i. record { reply = r; state = e i; memory = puts st m a vs }) h
  perform_left f j s (read q a n k) m h =
      cond_left f (clear j a n) (perform st j s (map_plan f (k (looks st m a n))) m) (perform st j s (k (looks st m a n)) m)
      (record { reply = named q (worst j a n); state = s; memory = m }) (λ e. perform_left f j s (k (looks st m a n)) m e) h
