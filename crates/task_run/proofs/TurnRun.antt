-- A run on A and the part as code has it: its number, what it leaves, and 32 told apart; and the run of the whole, with what refuses it whole.
use Rattle.model.proofs.Prelude.{ℕ, Bool, cond, false, true, ◌&&◌, ap, refl, sym, ◌∙◌, ◌≡◌, arith, step_on, both, inside, Shapes, shapes_of, Windows, admissible}
use Rattle.model.proofs.Prelude.{Sized, run_of, fetched, fetched_needs, mmix, unruled_by, adm, run_by, call_by, fetched_on, fetched_shapes, Ready, run_ready}
use Rattle.task_run.proofs.Prelude.{State, RunNumbered, passed}
use Rattle.task_run.specs.RunIn.{lost}
use Rattle.task_run.specs.Ask.{asks, OwnOnly, CountsInRange, told}
use Rattle.task_run.specs.declared.ask.Whole.{Whole}

-- ---- what a run leaves

pub run_shapes : (grant : ℕ) (w : Windows) (s : State) → shapes_of (run_of w s grant).memory ≡ shapes_of w
run_shapes grant w s =
    call_by (λ r. shapes_of r.memory ≡ shapes_of w) w s grant (λ a. refl) (λ a n. refl) (λ h l. refl)
    (λ c. run_by both mmix fetched (λ t m. shapes_of m ≡ shapes_of w) (λ r. shapes_of r.memory ≡ shapes_of w) (λ n r q. q) (λ t m q. q) (λ t m q n. kept t m ∙ q) (λ t m q d. kept t m ∙ q) grant s w refl)
  where
    kept : (t : State) (m : Windows) → shapes_of (step_on both mmix t m fetched).memory ≡ shapes_of m
    kept t m = rw (fetched_on m t) (fetched_shapes m t)

module _ (h : Whole) (w : Windows) (s : State) (grant : ℕ) (z : Sized s) (a : admissible s ≡ true) (u : unruled_by (shapes_of w) ≡ 0) (o : OwnOnly h w)
    (n d : ℕ) (t : State) (v : Windows) (e : RunNumbered (run_of w s grant) n d t v) where
  ends : Ready (run_of w s grant).memory (run_of w s grant).state
  ends = call_by (λ r. Ready r.memory r.state) w s grant (λ b. starts) (λ b n. starts) (λ b l. starts) (λ c. run_ready grant w s starts)
    where
      starts : Ready w s
      starts = record { sized = z; passes = passed w s a u }

  pub end_fine : unruled_by (shapes_of v) ≡ 0
  end_fine = ap (λ (m : Windows). unruled_by (shapes_of m)) e.window_is ∙ ap unruled_by (run_shapes grant w s) ∙ u

  pub end_admissible : admissible t ≡ true
  end_admissible = ap admissible e.state_is ∙ ends.passes.admitted

  pub end_counted : CountsInRange t.special
  end_counted =
      let k = adm t end_admissible in
      record { threshold = k.g_high; locals = omega (arith, k.g_high, k.l_g) }

  pub end_own : OwnOnly h v
  end_own = record { none_foreign = λ x i. o.none_foreign x (ap (λ (g : Shapes). inside g x) (sym (ap shapes_of e.window_is ∙ run_shapes grant w s)) ∙ i) }

  -- ---- the number told

  told_by_law : (f : Bool) → (lost (run_of w s grant).reply && asks h (fetched_needs (run_of w s grant).memory (run_of w s grant).state)) ≡ f
      → (m : ℕ) → m ≡ cond f 32 (run_of w s grant).reply → RunNumbered (told h (run_of w s grant)) m d t v
  unfolding told
  told_by_law f g m i = record { reply_is = rw g i; count_is = e.count_is; state_is = e.state_is; window_is = e.window_is }

  pub told_found : lost n ≡ false → RunNumbered (told h (run_of w s grant)) n d t v
  told_found l =
      let k : lost (run_of w s grant).reply ≡ false = ap lost (sym e.reply_is) ∙ l in
      told_by_law false (rw k) n e.reply_is

  asked : lost n ≡ true → (r : Bool) → r ≡ asks h (fetched_needs v t) → (lost (run_of w s grant).reply && asks h (fetched_needs (run_of w s grant).memory (run_of w s grant).state)) ≡ r
  asked l r q =
      let k : lost (run_of w s grant).reply ≡ true = ap lost (sym e.reply_is) ∙ l in
      rw (k, ← e.window_is, ← e.state_is) (sym q)

  module _ (l : lost n ≡ true) (r : Bool) (q : r ≡ asks h (fetched_needs v t)) where
    pub told_foreign : r ≡ true → RunNumbered (told h (run_of w s grant)) 32 d t v
    told_foreign f = told_by_law true (asked l r q ∙ f) 32 refl

    pub told_lost : r ≡ false → RunNumbered (told h (run_of w s grant)) n d t v
    told_lost f = told_by_law false (asked l r q ∙ f) n e.reply_is
