-- Laws of `run_for`, over any machine: by induction over the grant.
use Rattle.model.proofs.Logic.{suc, zero, ℕ, ◌+◌, ◌<◌, ◌≤◌, Bool, cond, false, true, List, [], ◌++◌, ◌∷◌, ◌≢◌, ap, refl, ◌∙◌, ◌≡◌, ℕ_discrete, arith}
use Rattle.model.proofs.Logic.{eqb, replicate, eqb-false, eqb-true, ne_eqb}
use Rattle.model.specs.Memory.{Store}
use Rattle.model.specs.Plan.{map_outcome}
use Rattle.model.specs.Lists.{Machine, step_on, runs}
use Rattle.model.specs.Run.{Stopped, more, stopped_by, run_for, tried}
use Rattle.model.proofs.Bools.{on, on_both}

module _ {M Sh S I : Type 0} (st : Store M Sh) (mc : Machine S I Sh) (i : I) where
  abbrev run : ℕ → S → M → Stopped S M
  run = run_for st mc i

  -- one turn
  pub run_none : (s : S) (m : M) → run 0 s m ≡ record { done = 0; reply = 0; state = s; memory = m }
  unfolding run_for
  run_none s m = refl

  pub run_done : (g : ℕ) (s : S) (m : M) → (step_on st mc s m i).reply ≡ 0 → run (suc g) s m ≡ more 1 (run g (step_on st mc s m i).state (step_on st mc s m i).memory)
  unfolding run_for
  run_done g s m e = rw e

  pub run_refused : (g : ℕ) (s : S) (m : M) → (step_on st mc s m i).reply ≢ 0 → run (suc g) s m ≡ stopped_by (step_on st mc s m i)
  unfolding run_for
  run_refused g s m n = rw (ne_eqb _ 0 n)

  -- what holds of a run's end by its last turn: spent, or refused
  pub run_by : (P : S → M → Type 0) (Q : Stopped S M → Type 0) → ((n : ℕ) (r : Stopped S M) → Q r → Q (more n r))
      → ((s : S) (m : M) → P s m → Q (record { done = 0; reply = 0; state = s; memory = m }))
      → ((s : S) (m : M) → P s m → (step_on st mc s m i).reply ≢ 0 → Q (stopped_by (step_on st mc s m i)))
      → ((s : S) (m : M) → P s m → (step_on st mc s m i).reply ≡ 0 → P (step_on st mc s m i).state (step_on st mc s m i).memory)
      → (g : ℕ) (s : S) (m : M) → P s m → Q (run g s m)
  unfolding run_for
  run_by P Q later spent refused kept zero s m h = spent s m h
  run_by P Q later spent refused kept (suc g) s m h =
      on Q (eqb (step_on st mc s m i).reply 0)
      (λ e. later 1 _ (run_by P Q later spent refused kept g (step_on st mc s m i).state (step_on st mc s m i).memory (kept s m h (eqb-true _ _ e))))
      (λ e. refused s m h (eqb-false _ _ e))

  pub run_spent : (g : ℕ) (s : S) (m : M) → (run g s m).reply ≡ 0 → (run g s m).done ≡ g
  unfolding run_for
  run_spent zero s m = λ e. refl
  run_spent (suc g) s m =
      on {A = Stopped S M} (λ r. r.reply ≡ 0 → r.done ≡ suc g) (eqb (step_on st mc s m i).reply 0)
      (λ b e. let d : (run g (step_on st mc s m i).state (step_on st mc s m i).memory).done ≡ g = run_spent g (step_on st mc s m i).state (step_on st mc s m i).memory e in omega arith)
      (λ b e. absurd (eqb-false _ _ b e))

  pub run_stops : (g : ℕ) (s : S) (m : M) → (run g s m).reply ≢ 0 → (run g s m).done < g
  unfolding run_for
  run_stops zero s m = λ f. absurd (f refl)
  run_stops (suc g) s m =
      on {A = Stopped S M} (λ r. r.reply ≢ 0 → r.done < suc g) (eqb (step_on st mc s m i).reply 0)
      (λ b f. let d : (run g (step_on st mc s m i).state (step_on st mc s m i).memory).done < g = run_stops g (step_on st mc s m i).state (step_on st mc s m i).memory f in omega arith)
      (λ b f. omega arith)

  pub run_most : (g : ℕ) (s : S) (m : M) → (run g s m).done ≤ g
  run_most g s m = go (ℕ_discrete (run g s m).reply 0)
    where
      go : Dec ((run g s m).reply ≡ 0) → (run g s m).done ≤ g
      go (yes e) = let d : (run g s m).done ≡ g = run_spent g s m e in omega arith
      go (no e) = let d : (run g s m).done < g = run_stops g s m e in omega arith

  -- a run that is refused: the state and memory that its count reached, and the item that is refused there
  pub record Last (s : S) (m : M) (r : Stopped S M) : Type 0 where
    pub reached : S
    pub lent : M
    pub reached_is : run r.done s m ≡ record { done = r.done; reply = 0; state = reached; memory = lent }
    pub last_is : step_on st mc reached lent i ≡ record { reply = r.reply; state = r.state; memory = r.memory }

  pub run_last : (g : ℕ) (s : S) (m : M) → (run g s m).reply ≢ 0 → Last s m (run g s m)
  unfolding run_for
  run_last zero s m = λ f. absurd (f refl)
  run_last (suc g) s m =
      on {A = Stopped S M} (λ r. r.reply ≢ 0 → Last s m r) (eqb (step_on st mc s m i).reply 0)
      (λ b f. later (run g (step_on st mc s m i).state (step_on st mc s m i).memory) (eqb-true _ _ b) (run_last g (step_on st mc s m i).state (step_on st mc s m i).memory f))
      (λ b f. record { reached = s; lent = m; reached_is = run_none s m; last_is = refl })
    where
      later : (r : Stopped S M) → (step_on st mc s m i).reply ≡ 0 → Last (step_on st mc s m i).state (step_on st mc s m i).memory r → Last s m (more 1 r)
      later r d l =
          let k : 1 + r.done ≡ suc r.done = omega arith in
          record {
            reached = l.reached;
            lent = l.lent;
            reached_is = ap (λ (g : ℕ). run g s m) k ∙ run_done r.done s m d ∙ ap (more 1) l.reached_is;
            last_is = l.last_is;
          }

  abbrev goes_on : Stopped S M → ℕ → Stopped S M
  goes_on r h = cond (eqb r.reply 0) (more r.done (run h r.state r.memory)) r

  pub run_larger : (g h : ℕ) (s : S) (m : M) → run (g + h) s m ≡ goes_on (run g s m) h
  unfolding run_for
  run_larger zero h s m = let z : 0 + h ≡ h = omega arith in rw z (none (run h s m))
    where
      none : (r : Stopped S M) → r ≡ more 0 r
      none r = λ j. record { done = count j; reply = r.reply; state = r.state; memory = r.memory }
        where
          count : r.done ≡ 0 + r.done
          count = omega arith
  run_larger (suc g) h s m =
      let z : suc g + h ≡ suc (g + h) = omega arith in
      rw z (turn (eqb (step_on st mc s m i).reply 0) refl (run_larger g h (step_on st mc s m i).state (step_on st mc s m i).memory))
    where
      turn : (b : Bool) → eqb (step_on st mc s m i).reply 0 ≡ b
          → run (g + h) (step_on st mc s m i).state (step_on st mc s m i).memory ≡ goes_on (run g (step_on st mc s m i).state (step_on st mc s m i).memory) h
          → cond b (more 1 (run (g + h) (step_on st mc s m i).state (step_on st mc s m i).memory)) (stopped_by (step_on st mc s m i))
          ≡ goes_on (cond b (more 1 (run g (step_on st mc s m i).state (step_on st mc s m i).memory)) (stopped_by (step_on st mc s m i))) h
      turn true e r = ap (more 1) r ∙ inner (run g (step_on st mc s m i).state (step_on st mc s m i).memory)
        where
          inner : (t : Stopped S M) → more 1 (goes_on t h) ≡ goes_on (more 1 t) h
          inner t = go (eqb t.reply 0)
            where
              go : (c : Bool) → more 1 (cond c (more t.done (run h t.state t.memory)) t) ≡ cond c (more (1 + t.done) (run h t.state t.memory)) (more 1 t)
              go true = λ j. record { done = sums (run h t.state t.memory).done j; reply = (run h t.state t.memory).reply; state = (run h t.state t.memory).state; memory = (run h t.state t.memory).memory }
                where
                  sums : (k : ℕ) → 1 + (t.done + k) ≡ 1 + t.done + k
                  sums k = omega arith
              go false = refl
      turn false e r = rw e

  -- the run is the list of the items that it tried
  abbrev answers : Stopped S M → List ℕ
  answers r = replicate r.done 0 ++ cond (eqb r.reply 0) [] (r.reply ∷ [])

  pub record IsList (s : S) (m : M) (r : Stopped S M) : Type 0 where
    pub answers_are : (runs st mc s m (replicate (tried r) i)).answers ≡ answers r
    pub state_is : (runs st mc s m (replicate (tried r) i)).state ≡ r.state
    pub memory_is : (runs st mc s m (replicate (tried r) i)).memory ≡ r.memory

  more_listed : (s : S) (m : M) (r : Stopped S M) → (step_on st mc s m i).reply ≡ 0 → IsList (step_on st mc s m i).state (step_on st mc s m i).memory r → IsList s m (more 1 r)
  more_listed s m r d h =
      let k : tried (more 1 r) ≡ suc (tried r) = tries (eqb r.reply 0) in
      let c : 1 + r.done ≡ suc r.done = omega arith in
      record {
        answers_are = rw (k, c) (first (tried r) (cond (eqb r.reply 0) [] (r.reply ∷ [])) h.answers_are);
        state_is = rw k (unfold runs in h.state_is);
        memory_is = rw k (unfold runs in h.memory_is);
      }
    where
      first : (n : ℕ) (l : List ℕ) → (runs st mc (step_on st mc s m i).state (step_on st mc s m i).memory (replicate n i)).answers ≡ replicate r.done 0 ++ l
          → (runs st mc s m (replicate (suc n) i)).answers ≡ replicate (suc r.done) 0 ++ l
      first n l e = unfold runs in (rw d (ap (λ (k : List ℕ). 0 ∷ k) e))

      tries : (b : Bool) → cond b (1 + r.done) (suc (1 + r.done)) ≡ suc (cond b r.done (suc r.done))
      tries true = omega arith
      tries false = omega arith

  pub run_listed : (g : ℕ) (s : S) (m : M) → IsList s m (run g s m)
  unfolding run_for
  run_listed zero s m = record { answers_are = unfold runs in refl; state_is = unfold runs in refl; memory_is = unfold runs in refl }
  run_listed (suc g) s m =
      on {A = Stopped S M} (IsList s m) (eqb (step_on st mc s m i).reply 0)
      (λ b. more_listed s m _ (eqb-true _ _ b) (run_listed g (step_on st mc s m i).state (step_on st mc s m i).memory))
      (λ b. once b)
    where
      once : eqb (step_on st mc s m i).reply 0 ≡ false → IsList s m (stopped_by (step_on st mc s m i))
      once b = record { answers_are = rw b (unfold runs in refl); state_is = rw b (unfold runs in refl); memory_is = rw b (unfold runs in refl) }

-- ---- runs under a map

-- the same end, with f of the state
abbrev pub map_stopped : {S T M : Type 0} → (S → T) → Stopped S M → Stopped T M
map_stopped f r = record { done = r.done; reply = r.reply; state = f r.state; memory = r.memory }

-- an item j that does on f s what i does on s: so do its runs
pub run_map : {M Sh S T I J : Type 0} (st : Store M Sh) (mc : Machine S I Sh) (md : Machine T J Sh) (i : I) (j : J) (f : S → T)
    → ((s : S) (m : M) → step_on st md (f s) m j ≡ map_outcome f (step_on st mc s m i))
    → (g : ℕ) (s : S) (m : M) → run_for st md j g (f s) m ≡ map_stopped f (run_for st mc i g s m)
unfolding run_for map_outcome
run_map st mc md i j f same zero s m = refl
run_map {M} {Sh} {S} {T} st mc md i j f same (suc g) s m =
    rw (same s m) (on_both {A = Stopped T M} {B = Stopped S M} (λ x y. x ≡ map_stopped f y) (eqb (step_on st mc s m i).reply 0)
    (λ e. ap (more 1) (run_map st mc md i j f same g (step_on st mc s m i).state (step_on st mc s m i).memory)) (λ e. refl))
