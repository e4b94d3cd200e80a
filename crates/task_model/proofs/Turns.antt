-- A turn is its task's step on its own state, and a run of turns its task's run.
use Rattle.model.proofs.Prelude.{ℕ, ◌<◌, List, ap, subst, sym, ◌∙◌, ◌≡◌, length, set, get_or-set_same, set-get_or, set-set, step_on, both, Windows, map_outcome}
use Rattle.model.proofs.Prelude.{map_plan, perform, fresh, run_for, fetched, Item, item_plan, perform_map, map_stopped, run_map}
use Rattle.task_model.proofs.Prelude.{State}
use Rattle.task_model.specs.Tasks.{Own, refusing_in, mmix_in, task_of, turn, turn_judge, turn_plan, studies}
use Rattle.task_model.specs.Call.{part_at, turn_run}

pub turn_is : (p : Own) (ss : List State) (w : Windows) (k : ℕ) (i : Item)
    → step_on both studies ss w (turn k p i) ≡ map_outcome (λ t. set ss k t) (step_on both (mmix_in p) (task_of ss k) w i)
unfolding step_on studies turn_judge turn_plan mmix_in
turn_is p ss w k i =
    subst (λ (u : List State). perform both (refusing_in p (both.shape w)) u (map_plan (λ t. set ss k t) (item_plan (task_of ss k) (both.shape w) i)) w
    ≡ map_outcome (λ t. set ss k t) (perform both (refusing_in p (both.shape w)) (task_of ss k) (item_plan (task_of ss k) (both.shape w) i) w)) (set-get_or ss k fresh)
    (perform_map both (λ t. set ss k t) (refusing_in p (both.shape w)) (task_of ss k) (item_plan (task_of ss k) (both.shape w) i) w)

-- whatever state task k is in
turn_at : (p : Own) (ss : List State) (k : ℕ) (i : Item) → k < length ss → (s : State) (w : Windows)
    → step_on both studies (set ss k s) w (turn k p i) ≡ map_outcome (λ t. set ss k t) (step_on both (mmix_in p) s w i)
turn_at p ss k i l s w =
    let g : task_of (set ss k s) k ≡ s = get_or-set_same ss k s fresh l in
    turn_is p (set ss k s) w k i
    ∙ ap (λ (t : State). map_outcome (λ u. set (set ss k s) k u) (step_on both (mmix_in p) t w i)) g
    ∙ ap (λ (f : State → List State). map_outcome f (step_on both (mmix_in p) s w i)) (λ j u. set-set ss k s u j)

pub turn_run_law : (ns : List ℕ) (k g : ℕ) (ss : List State) (w : Windows) → k < length ss
    → turn_run ns k g ss w ≡ map_stopped (λ t. set ss k t) (run_for both (mmix_in (part_at ns k)) fetched g (task_of ss k) w)
unfolding turn_run
turn_run_law ns k g ss w l =
    ap (λ (u : List State). run_for both studies (turn k (part_at ns k) fetched) g u w) (sym (set-get_or ss k fresh))
    ∙ run_map both (mmix_in (part_at ns k)) studies fetched (turn k (part_at ns k) fetched) (λ t. set ss k t) (turn_at (part_at ns k) ss k fetched l) g (task_of ss k) w
