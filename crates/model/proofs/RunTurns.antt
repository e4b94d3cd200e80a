-- The turns of a run as a loop has them: i of them are done, and the rest of the grant is to be run from here.
use Rattle.model.proofs.Logic.{suc, ℕ, ◌+◌, ◌-◌, ◌<◌, ◌≢◌, ap, sym, ◌∙◌, ◌≡◌, arith}
use Rattle.model.specs.Memory.{Windows, both}
use Rattle.model.specs.Plan.{Outcome}
use Rattle.model.specs.Step.{fetched_of, fetched, mmix}
use Rattle.model.specs.Run.{Stopped, more, run_for}
use Rattle.model.specs.declared.State.{State}
use Rattle.model.proofs.RunLaws.{run_none, run_done, run_refused}
use Rattle.model.proofs.RunMeant.{fetched_on}

abbrev running : ℕ → State → Windows → Stopped State Windows
running = run_for both mmix fetched

-- r is the run of `grant`; after i turns state and windows are s and w
pub record Turned (grant : ℕ) (r : Stopped State Windows) (i : ℕ) (w : Windows) (s : State) : Type 0 where
  pub rest : r ≡ more i (running (grant - i) s w)

more_more : (m n : ℕ) (r : Stopped State Windows) → more m (more n r) ≡ more (m + n) r
more_more m n r = λ j. record { done = sums j; reply = r.reply; state = r.state; memory = r.memory }
  where
    sums : m + (n + r.done) ≡ m + n + r.done
    sums = omega arith

pub turned_none : (grant : ℕ) (w : Windows) (s : State) → Turned grant (running grant s w) 0 w s
turned_none grant w s = record { rest = none (running grant s w) ∙ ap (λ (g : ℕ). more 0 (running g s w)) same }
  where
    none : (r : Stopped State Windows) → r ≡ more 0 r
    none r = λ j. record { done = count j; reply = r.reply; state = r.state; memory = r.memory }
      where
        count : r.done ≡ 0 + r.done
        count = omega arith

    same : grant ≡ grant - 0
    same = omega arith

-- one more is done
pub turned_done : (grant : ℕ) (r : Stopped State Windows) (i : ℕ) (w : Windows) (s : State) → i < grant → Turned grant r i w s → (fetched_of w s).reply ≡ 0
    → Turned grant r (i + 1) (fetched_of w s).memory (fetched_of w s).state
turned_done grant r i w s l h d =
    let k : grant - i ≡ suc (grant - (i + 1)) = omega arith in
    record {
      rest = h.rest ∙ ap (λ (g : ℕ). more i (running g s w)) k
          ∙ ap (more i) (run_done both mmix fetched (grant - (i + 1)) s w (ap (λ (o : Outcome State Windows). o.reply) (fetched_on w s) ∙ d))
          ∙ more_more i 1 (running (grant - (i + 1)) _ _)
          ∙ ap (λ (o : Outcome State Windows). more (i + 1) (running (grant - (i + 1)) o.state o.memory)) (fetched_on w s);
    }

-- the next is refused: the run is over, and it isn't counted
pub turned_refused : (grant : ℕ) (r : Stopped State Windows) (i : ℕ) (w : Windows) (s : State) → i < grant → Turned grant r i w s → (fetched_of w s).reply ≢ 0
    → r ≡ record { done = i; reply = (fetched_of w s).reply; state = (fetched_of w s).state; memory = (fetched_of w s).memory }
turned_refused grant r i w s l h n =
    let k : grant - i ≡ suc (grant - (i + 1)) = omega arith in
    let z : i + 0 ≡ i = omega arith in
    h.rest ∙ ap (λ (g : ℕ). more i (running g s w)) k
    ∙ ap (more i) (run_refused both mmix fetched (grant - (i + 1)) s w (λ q. n (sym (ap (λ (o : Outcome State Windows). o.reply) (fetched_on w s)) ∙ q)))
    ∙ ap (λ (o : Outcome State Windows). record { done = i + 0; reply = o.reply; state = o.state; memory = o.memory }) (fetched_on w s)
    ∙ ap (λ (c : ℕ). record { done = c; reply = (fetched_of w s).reply; state = (fetched_of w s).state; memory = (fetched_of w s).memory }) z

-- the grant is spent
pub turned_spent : (grant : ℕ) (r : Stopped State Windows) (w : Windows) (s : State) → Turned grant r grant w s → r ≡ record { done = grant; reply = 0; state = s; memory = w }
turned_spent grant r w s h =
    let k : grant - grant ≡ 0 = omega arith in
    let z : grant + 0 ≡ grant = omega arith in
    h.rest ∙ ap (λ (g : ℕ). more grant (running g s w)) k ∙ ap (more grant) (run_none both mmix fetched s w)
    ∙ ap (λ (c : ℕ). record { done = c; reply = 0; state = s; memory = w }) z
