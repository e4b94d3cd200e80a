-- Demand 3 with other tasks' turns in the list: model's demand of a caller in a machine, for task c on its part. What is left is that the list touches nothing
-- of the frame: its turns' needs keep off it (`turns_off`), or the frame lies in B and others' parts are apart (`owns_off`).
use Rattle.model.proofs.Prelude.{ℕ, ◌*◌, ◌+◌, ◌<◌, List, ◌≢◌, sym, ◌∙◌, ◌≡◌, ℕ_discrete, get_or, length, length-set, set, ext_get_or, get_or-set_other, get_or-set_same}
use Rattle.model.proofs.Prelude.{opcode_of, Within, x_at, hole, run_needs_by, both, shapes_of, Windows, All, Off, Outcome, worst, claim_local, fresh, r_o, Sized, sp}
use Rattle.model.proofs.Prelude.{Words, fetched, Item, step, call_passed, step_private, Paired, Passed, PrivateIn, reply_of', fetched_passed, fetched_private}
use Rattle.model.proofs.Prelude.{WasCalled, run_touches, has_octa, worst_of}
use Rattle.task_model.proofs.Prelude.{State}
use Rattle.task_model.specs.Tasks.{Own, refusing_in, task_of, Turn, turn, studies}
use Rattle.task_model.specs.TaskDemand.{TasksAlike, turn_on, PrivateTo, Demand3Tasks, Demand3TasksFetched, OwnFrame, own_needs, Demand3Own, Demand3OwnFetched}
use Rattle.task_model.proofs.Judge.{judge_octa}
use Rattle.task_model.proofs.Callers.{turn_shape, task_caller, turns_off, owns_off}

-- lists that differ at c alone are one where that is set
pub set_alike : {A : Type 0} (d : A) (c : ℕ) (xs ys : List A) → length xs ≡ length ys → ((k : ℕ) → k ≢ c → get_or xs k d ≡ get_or ys k d) → c < length xs
    → (v : A) → set xs c v ≡ set ys c v
set_alike {A} d c xs ys n others l v =
    ext_get_or d (set xs c v) (set ys c v) (length-set xs c v ∙ n ∙ sym (length-set ys c v)) (λ k q. go k (ℕ_discrete k c))
  where
    go : (k : ℕ) → Dec (k ≡ c) → get_or (set xs c v) k d ≡ get_or (set ys c v) k d
    go k (yes e) = rw e (get_or-set_same xs c v d l ∙ sym (get_or-set_same ys c v d (rw (← n) l)))
    go k (no m) = get_or-set_other xs c k v d m ∙ others k m ∙ sym (get_or-set_other ys c k v d m)

pub paired : (p : Own) (c h : ℕ) (ss ts : List State) → TasksAlike c h ss ts → c < length ss → Sized (task_of ss c) → Sized (task_of ts c) → Words (task_of ss c) → Words (task_of ts c)
    → Paired studies (task_caller c p) ss ts
paired p c h ss ts a l ns nt ws wt = record {
  there = l;
  there_too = rw (← a.count_same) l;
  put_same = set_alike fresh c ss ts a.count_same a.others l;
  sized = ns;
  sized_too = nt;
  words = ws;
  words_too = wt;
}

pub private_to : (p : Own) (c h : ℕ) (s t : State) (a b : Outcome (List State) Windows) (is : List Turn) → PrivateIn studies (task_caller c p) h s t a b is → PrivateTo p c h s t a b is
private_to p c h s t a b is q = record {
  call_same = q.call_same;
  answers_same = q.answers_same;
  states_same = q.states_same;
  window_same = q.window_same;
  first_back = λ at u m. record { done = (q.first_back at u m).done; locals = (q.first_back at u m).locals };
  second_back = λ at u m. record { done = (q.second_back at u m).done; locals = (q.second_back at u m).locals };
}

-- ---- any parts

pub demand3_tasks : Demand3Tasks
demand3_tasks p w ss ts c f x y z is any there ns nt ws wt alike done pcs off =
    private_to p c (hole (task_of ss c) x) (task_of ss c) (task_of ts c) (turn_on p w ss c (step (opcode_of f) x y z)) (turn_on p w ts c (step (opcode_of f) x y z)) is
    (step_private studies (task_caller c p) w ss ts f x y z is (paired p c (hole (task_of ss c) x) ss ts alike there ns nt ws wt) alike.caller done pcs
    (turns_off (Off (Within (sp (task_of ss c) r_o) (hole (task_of ss c) x + 1))) is _ _ off))

pub demand3_tasks_fetched : Demand3TasksFetched
demand3_tasks_fetched p w ss ts c f is any there ns nt ws wt op alike done pcs off =
    private_to p c (hole (task_of ss c) (x_at w (task_of ss c))) (claim_local (task_of ss c) (x_at w (task_of ss c))) (claim_local (task_of ts c) (x_at w (task_of ss c)))
    (turn_on p w ss c fetched) (turn_on p w ts c fetched) is
    (fetched_private studies (task_caller c p) w ss ts f is (paired p c (hole (task_of ss c) (x_at w (task_of ss c))) ss ts alike there ns nt ws wt) op alike.caller done pcs
    (turns_off (Off (Within (sp (task_of ss c) r_o) (hole (task_of ss c) (x_at w (task_of ss c)) + 1))) is _ _ off))

-- ---- a frame in the caller's own part

pub frame_off : (p : Own) (w : Windows) (a n c : ℕ) (is : List Turn) (ss : List State) (i : Item) → worst (refusing_in p (shapes_of w)) a n ≡ 0 → OwnFrame p w a n c is
    → All (Off (Within a n)) (run_needs_by both studies (own_needs c) (turn_on p w ss c i).state (turn_on p w ss c i).memory is)
    → All (Off (Within a n)) (run_touches both studies (turn_on p w ss c i).state (turn_on p w ss c i).memory is)
frame_off p w a n c is ss i fits own off =
    owns_off p c (Within a n) (shapes_of w)
    (λ b e. has_octa (shapes_of w).b b (a + 8 * e.place) e.named_by ∙ own.in_b e.place e.place_below)
    (λ b e. judge_octa p (shapes_of w) b (a + 8 * e.place) e.named_by ∙ worst_of (refusing_in p (shapes_of w)) n a e.place fits e.place_below)
    is (turn_on p w ss c i).state (turn_on p w ss c i).memory (unfold both in (turn_shape ss w (turn c p i))) own.apart off

pub demand3_own : Demand3Own
demand3_own p w ss ts c f x y z is own there ns nt ws wt alike done pcs off =
    let s : State = task_of ss c in
    let met : Passed (refusing_in p (shapes_of w)) w s (hole s x) = call_passed f (refusing_in p (shapes_of w)) w s x y z (sym (reply_of' studies (task_caller c p) ss w (step (opcode_of f) x y z)) ∙ done) in
    private_to p c (hole s x) s (task_of ts c) (turn_on p w ss c (step (opcode_of f) x y z)) (turn_on p w ts c (step (opcode_of f) x y z)) is
    (step_private studies (task_caller c p) w ss ts f x y z is (paired p c (hole s x) ss ts alike there ns nt ws wt) alike.caller done pcs
    (frame_off p w (sp s r_o) (hole s x + 1) c is ss (step (opcode_of f) x y z) met.fits own off))

pub demand3_own_fetched : Demand3OwnFetched
demand3_own_fetched p w ss ts c f is own there ns nt ws wt op alike done pcs off =
    let s : State = task_of ss c in
    let was : WasCalled (refusing_in p (shapes_of w)) w s = fetched_passed f (refusing_in p (shapes_of w)) w s op (sym (reply_of' studies (task_caller c p) ss w fetched) ∙ done) in
    private_to p c (hole s (x_at w s)) (claim_local s (x_at w s)) (claim_local (task_of ts c) (x_at w s)) (turn_on p w ss c fetched) (turn_on p w ts c fetched) is
    (fetched_private studies (task_caller c p) w ss ts f is (paired p c (hole s (x_at w s)) ss ts alike there ns nt ws wt) op alike.caller done pcs
    (frame_off p w (sp s r_o) (hole s (x_at w s) + 1) c is ss fetched was.passed.fits own off))
