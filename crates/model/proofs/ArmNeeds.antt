-- What plans need, by equations: those of the arms that touch memory.
use Rattle.model.proofs.Logic.{max, ℕ, ◌%◌, ◌+◌, ◌-◌, ◌/◌, ◌^◌, Bool, cond, false, true, ◌&&◌, append-nil, List, [], ◌++◌, ◌∷◌, ap, refl, ◌∙◌, ◌≡◌, eqb}
use Rattle.model.proofs.Logic.{leb, ltb}
use Rattle.model.specs.Fill.{tab}
use Rattle.model.specs.Registers.{r_o, r_g, sp, goes, next, halted}
use Rattle.model.specs.Memory.{Windows, shapes_of, inside, both}
use Rattle.model.specs.Plan.{Plan, answer, read, ups, worst, missing, look, looks, needs}
use Rattle.model.specs.Opcodes.{Width, Sign}
use Rattle.model.specs.NoMemory.{Said, refuse, tell}
use Rattle.model.specs.Frames.{framed, pushed, push_frame, pop_to, pop_rule, no_frame, misplaced, pop_frame}
use Rattle.model.specs.Contexts.{extent, saved, saved_state, save_context, below, unsaved, context_rest, context_count, context_at, unsave_context}
use Rattle.model.specs.LoadStore.{load_from, store_to}
use Rattle.model.specs.Step.{refusing}
use Rattle.model.specs.StepNeeds.{run, pop_needs, unsave_needs_rest, unsave_needs_count, unsave_needs}
use Rattle.model.specs.declared.State.{State}
use Rattle.model.proofs.Bools.{on, on_both}
use Rattle.model.proofs.Runs.{length_tab}

abbrev unsaved_next : State → ℕ → ℕ → ℕ → ℕ → List ℕ → State
unsaved_next s o g a l vs = next (unsaved s o g a l vs)

module _ (w : Windows) where
  abbrev pub by : Plan State → List ℕ
  by p = needs both (refusing (shapes_of w)) p w

  pub tell_none : (d : Said) → by (tell d) ≡ []
  unfolding needs tell worst ups
  tell_none d = refl

  pub by_cond : (b : Bool) (p q : Plan State) → by (cond b p q) ≡ cond b (by p) (by q)
  by_cond true p q = refl
  by_cond false p q = refl

  pub by_read : (a n : ℕ) (k : List ℕ → Plan State) → by (read 6 a n k) ≡ run w a n (by (k (looks both w a n)))
  unfolding needs
  by_read a n k = refl

  pub by_answer : (r : ℕ) (t : State) (a n : ℕ) (f : ℕ → ℕ) → by (answer r t a (tab 0 n f)) ≡ run w a n []
  unfolding needs
  by_answer r t a n f = rw (length_tab n 0 f, append-nil)

  pub push_needs : (s : State) (h t : ℕ) → by (push_frame s h t) ≡ run w (sp s r_o) (h + 1) []
  unfolding push_frame
  push_needs s h t = by_answer 0 (goes (pushed s h) t) (sp s r_o) (h + 1) (framed s h)

  pub save_needs : (s : State) (x : ℕ) → by (save_context s x) ≡ cond (ltb x (sp s r_g)) [] (run w (sp s r_o) (extent s) [])
  unfolding save_context
  save_needs s x = by_cond (ltb x (sp s r_g)) (tell (refuse 13 s)) (answer 0 (next (saved_state s x)) (sp s r_o) (tab 0 (extent s) (saved s)))
      ∙ rw (tell_none (refuse 13 s), by_answer 0 (next (saved_state s x)) (sp s r_o) (extent s) (saved s))

  pub pop_needs' : (s : State) (x t : ℕ) → by (pop_frame s x t) ≡ pop_needs w s
  unfolding pop_frame pop_rule pop_to pop_needs tell needs worst ups looks
  pop_needs' s x t =
      by_cond (no_frame s) _ _
      ∙ on_both (λ (a b : List ℕ). a ≡ b) (no_frame s) (λ e. refl) (λ e. by_cond (misplaced s) _ _ ∙ on_both (λ (a b : List ℕ). a ≡ b) (misplaced s) (λ e. refl) (λ e. refl))

  rest_needs : (s : State) (p g a l : ℕ) → by (context_rest (halted s) (unsaved_next s) p g a l) ≡ unsave_needs_rest w p g l
  unfolding context_rest unsave_needs_rest tell needs worst ups
  rest_needs s p g a l = by_cond (leb l g) _ _

  count_needs : (s : State) (p g a : ℕ) → by (context_count (halted s) (unsaved_next s) p g a) ≡ unsave_needs_count w p g a
  unfolding context_count unsave_needs_count tell needs worst ups looks
  count_needs s p g a =
      by_cond (leb 32 g && leb g 255) _ _
      ∙ on_both (λ (a b : List ℕ). a ≡ b) (leb 32 g && leb g 255)
      (λ e. by_cond (leb a 0x3FFFF) _ _
      ∙ on_both (λ (a b : List ℕ). a ≡ b) (leb a 0x3FFFF) (λ f. rw (← rest_needs s p g a (look both w (below p (269 - g))))) (λ f. refl))
      (λ e. refl)

  pub unsave_needs' : (s : State) (p : ℕ) → by (unsave_context s p) ≡ unsave_needs w p
  unfolding unsave_context context_at unsave_needs needs looks
  unsave_needs' s p = rw (← count_needs s p (look both w p / 2 ^ 56) (look both w p % 2 ^ 56))

  -- one octabyte
  pub run_one : (a : ℕ) (rest : List ℕ) → run w a 1 rest ≡ cond (inside (shapes_of w) a) (a ∷ rest) (a ∷ [])
  unfolding worst missing ups refusing
  run_one a rest = go (inside (shapes_of w) a)
    where
      go : (b : Bool) → cond (eqb (max (cond b 0 6) 0) 0) (a ∷ rest) (cond (eqb (cond b 0 6) 0) [] (a ∷ []) ++ []) ≡ cond b (a ∷ rest) (a ∷ [])
      go true = refl
      go false = refl

  pub load_needs : (s : State) (d : Width) (g : Sign) (x a : ℕ) → by (load_from s d g x a) ≡ a ∷ []
  unfolding load_from needs worst ups
  load_needs s d g x a = run_one a [] ∙ on (λ (l : List ℕ). l ≡ a ∷ []) (inside (shapes_of w) a) (λ e. refl) (λ e. refl)

  pub store_needs : (s : State) (d : Width) (g : Sign) (x a n : ℕ) → by (store_to s d g x a n) ≡ cond (inside (shapes_of w) a) (a ∷ a ∷ []) (a ∷ [])
  unfolding store_to needs ups
  store_needs s d g x a n =
      run_one a _ ∙ on_both (λ (k l : List ℕ). k ≡ l) (inside (shapes_of w) a)
      (λ e. ap (λ (l : List ℕ). a ∷ l) (run_one a [] ∙ rw e)) (λ e. refl)
