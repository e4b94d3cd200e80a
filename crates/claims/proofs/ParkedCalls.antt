-- A parked context survives a list of calls: SAVE is a turn of task c on the whole of B, the calls are turns (TaskChains), and what the functions leave is what the
-- turns leave. So is UNSAVE, as the next turn.
use Rattle.model.proofs.Prelude.{ℕ, ◌<◌, List, ap, subst, sym, ◌∙◌, ◌≡◌, arith, length, set, get_or-set_same, Fits, Ran, run_needs_by, runs, step_on, both, shapes_of}
use Rattle.model.proofs.Prelude.{Windows, op_save, op_unsave, All, map_outcome, Off, Outcome, following, fresh, reg, Sized, Words, Item, mmix, by_fetch, by_step}
use Rattle.model.proofs.Prelude.{item_by, NamesBy, Way, x_by}
use Rattle.claims.proofs.Prelude.{State, Asks, ComesBack, Context, saved_by, UnparksTo, until_unsave, after_turns, turn_on, Own, refusing_in, studies, task_of}
use Rattle.claims.proofs.Prelude.{Turn, turn, turn_needs, turns_shape, turn_shape}
use Rattle.task_model.proofs.ParkedTasks.{parked_tasks}
use Rattle.claims.specs.OneCall.{Held, held_state}
use Rattle.claims.proofs.Calls.{ItemMade, item_made}
use Rattle.claims.specs.TaskCalls.{all_turns, held_by, states_held, TaskEntry, AloneMet, TaskMeetsBy, whole_of, TaskChain, task_last_held, task_last_window}
use Rattle.claims.specs.ParkedCalls.{ParkedCalls}
use Rattle.claims.proofs.HeldLists.{AllIntact, all_intact, task_held, states_length}
use Rattle.claims.proofs.WholeTurns.{AsTurns}
use Rattle.claims.proofs.TaskChains.{chain_made, chain_needs}
use Rattle.claims.proofs.TaskPop.{turned_item, lent_whole, CallMade, item_called}

-- X is a byte: given, or of a tetra
x_small : (i : Way) (op : ℕ) (w : Windows) (s : State) → Fits (item_by i op) → x_by i w s < 256
unfolding Fits
x_small (by_step x y z) op w s f = f.x_byte
x_small by_fetch op w s f = omega arith

-- the tasks' theorem, of a state, states and windows that are those of the turns
module _ (p : Own) (w : Windows) (ss : List State) (c : ℕ) (i u : Way) (is : List Turn) where
  abbrev o : Outcome (List State) Windows
  o = saved_by p w ss c i

  abbrev r : Ran (List State) Windows
  r = until_unsave p w ss c i is

  abbrev ParkedAt : State → List State → Windows → Type 0
  ParkedAt s es v = c < length ss → Sized s → Words s → NamesBy i op_save w s → x_by i w s < 256 → o.reply ≡ 0
      → All (Off (Context s)) (run_needs_by both studies turn_needs o.state o.memory is)
      → Asks (refusing_in p (shapes_of v)) v (task_of es c) (reg (task_of o.state c) (x_by i w s)) u
      → UnparksTo c s (record { answers = r.answers; state = es; memory = v }) (turn_on p v es c (item_by u op_unsave))

  parked_at : (s : State) (es : List State) (v : Windows) → task_of ss c ≡ s → r.state ≡ es → r.memory ≡ v → ParkedAt s es v
  parked_at s es v e f g =
      subst (λ (q : State). ParkedAt q es v) e (subst (λ (q : List State). ParkedAt (task_of ss c) q v) f (subst (ParkedAt (task_of ss c) r.state) g
      (λ there n words names byte done off asks. parked_tasks p w ss c i u is there n words names byte done off asks)))

pub parked_calls : ParkedCalls
unfolding TaskChain TaskMeetsBy map_outcome both
parked_calls w hs c i e a cs there hf hw fit fs ea asks names ga done off d u du fu q met =
    let s : State = held_state (held_by hs c) in
    let j : Item = item_by i op_save in
    let p : Own = whole_of w in
    let ss : List State = states_held hs in
    let hi : AllIntact hs = all_intact hs hf in
    let ma : AloneMet hs w c e a = subst (λ (n : TaskEntry). TaskMeetsBy hs w n a) ea ga.0 in
    -- SAVE as a turn
    let its : task_of ss c ≡ s = task_held hs c in
    let t : CallMade hs w c j a = item_called hs w c j e a hi hw fit asks ma in
    let o : Outcome (List State) Windows = saved_by p w ss c i in
    -- the calls as turns
    let is : List Turn = all_turns a.held a.window cs in
    let r : AsTurns a.held a.window is (task_last_held a.held cs) (task_last_window a.window cs) = chain_made a.held a.window cs t.whole t.bytes fs ga.1 in
    let away : All (Off (Context s)) (run_needs_by both studies turn_needs o.state o.memory is)
    = subst (λ (v : Windows). All (Off (Context s)) (run_needs_by both studies turn_needs o.state v is)) t.window_is
    (subst (λ (x : List State). All (Off (Context s)) (run_needs_by both studies turn_needs x a.window is)) t.states_are
    (subst (All (Off (Context s))) (sym (chain_needs a.held a.window cs t.whole t.bytes fs ga.1)) off)) in
    let end : runs both studies (states_held a.held) a.window is ≡ after_turns o is = λ x. runs both studies (t.states_are x) (t.window_is x) is in
    -- where they end
    let gs : List Held = task_last_held a.held cs in
    let v : Windows = task_last_window a.window cs in
    let states : states_held gs ≡ (after_turns o is).state = r.states_are ∙ ap (λ (x : Ran (List State) Windows). x.state) end in
    let window : v ≡ (after_turns o is).memory = r.window_is ∙ ap (λ (x : Ran (List State) Windows). x.memory) end in
    let same : shapes_of v ≡ shapes_of w = ap shapes_of window ∙ turns_shape is o.state o.memory ∙ turn_shape ss w (turn c p j) in
    let held_there : c < length gs = omega (arith, r.count, t.count) in
    let g : State = held_state (held_by gs c) in
    -- UNSAVE
    let l : ItemMade (held_by gs c) v (item_by u op_unsave) d.reply d.held d.window = item_made (held_by gs c) v d (item_by u op_unsave) (r.whole c held_there) r.bytes du fu met in
    let x : ℕ = x_by i w s in
    let saved : held_state (held_by a.held c) ≡ task_of o.state c = sym (task_held a.held c) ∙ ap (λ (z : List State). task_of z c) t.states_are in
    let end_at : Ran (List State) Windows = record { answers = (after_turns o is).answers; state = states_held gs; memory = v } in
    let b : UnparksTo c s end_at (turn_on p v (states_held gs) c (item_by u op_unsave))
    = parked_at p w ss c i u is s (states_held gs) v its (sym states) (sym window) (rw (states_length hs) there) (hi c there).sized (hi c there).words names (x_small i op_save w s fit) (sym t.reply_is ∙ done) away
    (subst (λ (z : State). Asks (refusing_in p (shapes_of v)) v z (reg (task_of o.state c) x) u) (sym (task_held gs c))
    (subst (λ (z : State). Asks (refusing_in p (shapes_of v)) v g (reg z x) u) saved (record { names = q.names; lent = lent_whole u w v g same q.lent; address = q.address }))) in
    let its_end : task_of (states_held gs) c ≡ g = task_held gs c in
    let n : Outcome State Windows = step_on both mmix g v (item_by u op_unsave) in
    let k : UnparksTo c s end_at (map_outcome (λ z. set (states_held gs) c z) n)
    = subst (UnparksTo c s end_at)
    (turned_item w v (states_held gs) c (item_by u op_unsave) same ∙ ap (λ (z : State). map_outcome (λ y. set (states_held gs) c y) (step_on both mmix z v (item_by u op_unsave))) its_end) b in
    let back : task_of (set (states_held gs) c n.state) c ≡ held_state d.held
    = get_or-set_same (states_held gs) c n.state fresh (rw (states_length gs) held_there) ∙ sym l.state_is in
    record {
      done = l.reply_is ∙ k.done;
      state_back = subst (ComesBack s) back k.state_back;
      pc_next = ap (λ (z : State). z.pc) (sym back) ∙ k.pc_next ∙ ap (λ (z : State). following z) its_end;
      halt_same = ap (λ (z : State). z.halt) (sym back) ∙ k.halt_same ∙ ap (λ (z : State). z.halt) its_end;
      window_same = l.window_is ∙ k.memory_same;
    }
