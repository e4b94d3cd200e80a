-- A call and its POP anywhere in a list of turns: the call is DemandCore's of task c on its part, the POP that of task c on another; two runs are Demand3Tasks.
use Rattle.model.proofs.Prelude.{ℕ, ◌*◌, ◌+◌, ◌<◌, List, [], ⊎_elim, ap, subst, sym, ◌∙◌, ◌≡◌, get_or, length, get_or-set_same, Alike, AtPop, Call, opcode_of}
use Rattle.model.proofs.Prelude.{SameOutside, Within, hole, run_needs_by, runs, both, Shapes, shapes_of, Windows, Agree, All, Off, Outcome, worst, fresh, r_o}
use Rattle.model.proofs.Prelude.{Sized, sp, Words, Item, opcode_in, tetra_of, unruled_by, x_in, by_fetch, by_step, item_by, NamesBy, Way, x_by, adm, Good, agree_of}
use Rattle.model.proofs.Prelude.{hole_alike, back_core, called_by, narrow, tetra_alike, runs_kept, run_touches, run_touches_agree, both_lawful, All_of, called}
use Rattle.model.proofs.Prelude.{of_worst, splits}
use Rattle.task_model.proofs.Prelude.{State}
use Rattle.task_model.specs.Tasks.{Own, refusing_in, task_of, Turn, turn, studies, turn_needs}
use Rattle.task_model.specs.TaskDemand.{TasksAlike, turn_on, after_turns, pop_in, PopMetIn, GivesBackTo, Condition, ClaimIn, FetchedClaimIn, any_parts, OwnFrame, own_needs}
use Rattle.task_model.proofs.Cuts.{cut_state, cut_memory, cut_answer}
use Rattle.task_model.proofs.Judge.{studies_sound}
use Rattle.task_model.proofs.Callers.{turn_shape, task_caller, turns_off}
use Rattle.task_model.proofs.TaskDemand.{frame_off, demand3_tasks, demand3_tasks_fetched, demand3_own, demand3_own_fetched}
use Rattle.task_model.specs.Anywhere.{TurnsSplit, Cut, call_turn, pop_turn, turns_to_pop, caller_by, at_call, called_at, at_pop, popped_at, caller_at, hole_at, pushed_at, CallerThere, PopsThere, CameBack, Reading, AnywhereBy, Anywhere, AnywhereOwn, behind, TwiceBy, AnywhereTwice, AnywhereOwnTwice}
use Rattle.task_model.proofs.CallBy.{CalledBy, by_r_o, by_good, by_words, by_hole, call_leaves, was_called}

pub turns_split : TurnsSplit
turns_split = splits both studies

-- no turn changes the windows' bases or lengths
pub turns_shape : (is : List Turn) (ss : List State) (w : Windows) → shapes_of (runs both studies ss w is).memory ≡ shapes_of w
unfolding both
turns_shape is ss w = (runs_kept both both_lawful studies (λ o. ⊥) studies_sound is ss w (All_of _ (run_touches both studies ss w is) (λ b x. x))).shape_kept

pub after_shape : (p : Own) (w : Windows) (ss : List State) (c : ℕ) (i : Way) (op : ℕ) (is : List Turn)
    → shapes_of (after_turns (turn_on p w ss c (item_by i op)) is).memory ≡ shapes_of w
after_shape p w ss c i op is =
    turns_shape is (turn_on p w ss c (item_by i op)).state (turn_on p w ss c (item_by i op)).memory ∙ (unfold both in (turn_shape ss w (turn c p (item_by i op))))

-- ---- one run

module _ (p r : Own) (w : Windows) (ss : List State) (c : ℕ) (f : Call) (i u : Way) (is : List Turn) where
  abbrev s : State
  s = task_of ss c

  abbrev h : ℕ
  h = hole s (x_by i w s)

  abbrev Back : Outcome (List State) Windows → Type 0
  Back o = All (Off (Within (sp s r_o) (h + 1))) (run_touches both studies o.state o.memory is)
      → AtPop h (sp (task_of o.state c) r_o) (task_of (after_turns o is).state c) → PopMetIn r (after_turns o is) c u
      → GivesBackTo c h (caller_by i w s) (pop_in r (after_turns o is) c u)

  back_at : c < length ss → Sized s → Words s → NamesBy i (opcode_of f) w s → (turn_on p w ss c (item_by i (opcode_of f))).reply ≡ 0
      → (CalledBy (refusing_in p (shapes_of w)) w s f i → worst (refusing_in r (shapes_of w)) (sp s r_o) (h + 1) ≡ 0)
      → Back (turn_on p w ss c (item_by i (opcode_of f)))
  back_at there sized words names done lets =
      let q : CalledBy (refusing_in p (shapes_of w)) w s f i = was_called studies (task_caller c p) w ss f i names done in
      let good : Good s = record { size = sized; admits = adm s q.passed.admitted } in
      let cs : State = caller_by i w s in
      let os : sp cs r_o ≡ sp s r_o = by_r_o i w s in
      let o : Outcome (List State) Windows = called_by studies (task_caller c p) w ss cs h q.target in
      subst Back (sym (call_leaves studies (task_caller c p) w ss f i q))
      (λ off at met.
      let g = back_core studies (task_caller c r) w ss cs h q.target is there (by_words i w s words) (by_good i w s good) q.passed.fine (by_hole i w s good)
      (subst (λ (a : ℕ). worst (refusing_in r (shapes_of w)) a (h + 1) ≡ 0) (sym os) (lets q))
      (subst (λ (a : ℕ). All (Off (Within a (h + 1))) (run_touches both studies o.state o.memory is)) (sym os) off)
      (subst (λ (t : State). AtPop h (sp t r_o) (task_of (after_turns o is).state c)) (get_or-set_same ss c (called cs h q.target) fresh there) at) u met in
      record { done = g.done; locals = g.locals })

-- where the POP stands
module _ (k : Cut) (ss : List State) (w : Windows) where
  pub to_pop : (runs both studies ss w (turns_to_pop k)).state ≡ (at_pop k ss w).state
  to_pop = cut_state ss w k.before (call_turn k) k.list

  pub to_pop_memory : (runs both studies ss w (turns_to_pop k)).memory ≡ (at_pop k ss w).memory
  to_pop_memory = cut_memory ss w k.before (call_turn k) k.list

  -- what the list touches suffices
  touched_back : CallerThere k ss w → NamesBy k.how (opcode_of k.kind) (at_call k ss w).memory (caller_at k ss w) → (called_at k ss w).reply ≡ 0
      → All (Off (Within (sp (caller_at k ss w) r_o) (hole_at k ss w + 1))) (run_touches both studies (called_at k ss w).state (called_at k ss w).memory k.list)
      → PopsThere k ss w → CameBack k ss w
  touched_back cl names done off pop =
      let v : Windows = (at_call k ss w).memory in
      let es : List State = (at_call k ss w).state in
      let a : ℕ = sp (caller_at k ss w) r_o in
      let n : ℕ = hole_at k ss w + 1 in
      let same : shapes_of (at_pop k ss w).memory ≡ shapes_of v = after_shape k.part v es k.task k.how (opcode_of k.kind) k.list in
      let b : GivesBackTo k.task (hole_at k ss w) (pushed_at k ss w) (popped_at k ss w)
      = back_at k.part k.pop_part v es k.task k.kind k.how k.pop_how k.list cl.there cl.sized cl.words names done
      (λ q. ⊎_elim (λ e. subst (λ (x : Own). worst (refusing_in x (shapes_of v)) a n ≡ 0) (sym e) q.passed.fits)
      (λ l. of_worst (refusing_in k.pop_part (shapes_of v)) n a (λ i m. subst (λ (x : Shapes). refusing_in k.pop_part x (a + 8 * i) ≡ 0) same (l i m))) pop.lets)
      off pop.finds_back pop.met in
      record { back = b; answer_is = cut_answer ss w k.before (call_turn k) k.list (pop_turn k) k.rest 1 ∙ b.done }

-- a condition and a reading for which demand 3 holds: what the list touches is then no octabyte of the frame
pub record Claimed (parted : Condition) (needed : Reading) : Type 0 where
  pub clears : (p : Own) (w : Windows) (a n c : ℕ) (is : List Turn) (ss : List State) (i : Item) → worst (refusing_in p (shapes_of w)) a n ≡ 0 → parted p w a n c is
      → All (Off (Within a n)) (run_needs_by both studies (needed c) (turn_on p w ss c i).state (turn_on p w ss c i).memory is)
      → All (Off (Within a n)) (run_touches both studies (turn_on p w ss c i).state (turn_on p w ss c i).memory is)
  pub stepped : ClaimIn parted needed
  pub fetched : FetchedClaimIn parted needed

pub any_claimed : Claimed any_parts (λ c. turn_needs)
any_claimed = record {
  clears = λ p w a n c is ss i fits any off. turns_off (Off (Within a n)) is (turn_on p w ss c i).state (turn_on p w ss c i).memory off;
  stepped = demand3_tasks;
  fetched = demand3_tasks_fetched;
}

pub own_claimed : Claimed OwnFrame own_needs
own_claimed = record { clears = frame_off; stepped = demand3_own; fetched = demand3_own_fetched }

pub anywhere_by : (parted : Condition) (needed : Reading) → Claimed parted needed → AnywhereBy parted needed
anywhere_by parted needed claimed k ss w cl c pop =
    let v : Windows = (at_call k ss w).memory in
    let es : List State = (at_call k ss w).state in
    let q : CalledBy (refusing_in k.part (shapes_of v)) v (caller_at k ss w) k.kind k.how
    = was_called studies (task_caller k.task k.part) v es k.kind k.how c.names c.done in
    touched_back k ss w cl c.names c.done
    (claimed.clears k.part v (sp (caller_at k ss w) r_o) (hole_at k ss w + 1) k.task k.list es (item_by k.how (opcode_of k.kind)) q.passed.fits c.parts c.off) pop

pub anywhere : Anywhere
anywhere = anywhere_by any_parts (λ c. turn_needs) any_claimed

pub anywhere_own : AnywhereOwn
anywhere_own = anywhere_by OwnFrame own_needs own_claimed

-- ---- two runs

-- of two states with one PC
names_too : (i : Way) (op : ℕ) (w : Windows) (s t : State) → s.pc ≡ t.pc → NamesBy i op w s → NamesBy i op w t
names_too (by_step x y z) op w s t e n = tt
names_too by_fetch op w s t e n = ap opcode_in (sym (tetra_alike w s t e)) ∙ n

same_hole : (i : Way) (w : Windows) (s t : State) → s.pc ≡ t.pc → s.special ≡ t.special → hole s (x_by i w s) ≡ hole t (x_by i w t)
same_hole (by_step x y z) w s t e f = hole_alike s t x f
same_hole by_fetch w s t e f = hole_alike s t (x_in (tetra_of w s)) f ∙ ap (λ (n : ℕ). hole t (x_in n)) (tetra_alike w s t e)

-- what both runs leave of the call and the list, F the locals' place, G the frame
record Twice (F G : ℕ → Type 0) (o u : Outcome (List State) Windows) (is : List Turn) : Type 0 where
  call_same : u.reply ≡ o.reply
  answers_same : (after_turns o is).answers ≡ (after_turns u is).answers
  states_same : (after_turns o is).state ≡ (after_turns u is).state
  window_same : SameOutside F (after_turns o is).memory (after_turns u is).memory
  off_too : All (Off G) (run_touches both studies u.state u.memory is)

abbrev call_of : Own → Windows → ℕ → Call → List State → Way → Outcome (List State) Windows
call_of p w c f qs i = turn_on p w qs c (item_by i (opcode_of f))

abbrev hole_of : Windows → State → Way → ℕ
hole_of w s i = hole s (x_by i w s)

module _ (p : Own) (w : Windows) (ss ts : List State) (c : ℕ) (f : Call) where
  -- what demand 3 says of it by either way
  record Demanded (i : Way) (is : List Turn) : Type 0 where
    call_same : (call_of p w c f ts i).reply ≡ (call_of p w c f ss i).reply
    answers_same : (after_turns (call_of p w c f ss i) is).answers ≡ (after_turns (call_of p w c f ts i) is).answers
    states_same : (after_turns (call_of p w c f ss i) is).state ≡ (after_turns (call_of p w c f ts i) is).state
    window_same : SameOutside (Within (sp (caller_by i w (task_of ss c)) r_o) (hole_of w (task_of ss c) i)) (after_turns (call_of p w c f ss i) is).memory (after_turns (call_of p w c f ts i) is).memory

module _ (parted : Condition) (needed : Reading) (claimed : Claimed parted needed) (p : Own) (w : Windows) (ss ts : List State) (c : ℕ) (f : Call) where
  demanded : (i : Way) (is : List Turn) → parted p w (sp (task_of ss c) r_o) (hole_of w (task_of ss c) i + 1) c is → c < length ss → Sized (task_of ss c) → Sized (task_of ts c) → Words (task_of ss c) → Words (task_of ts c)
      → NamesBy i (opcode_of f) w (task_of ss c) → TasksAlike c (hole_of w (task_of ss c) i) ss ts → (call_of p w c f ss i).reply ≡ 0
      → (task_of (call_of p w c f ss i).state c).pc ≡ (task_of (call_of p w c f ts i).state c).pc
      → All (Off (Within (sp (task_of ss c) r_o) (hole_of w (task_of ss c) i + 1))) (run_needs_by both studies (needed c) (call_of p w c f ss i).state (call_of p w c f ss i).memory is)
      → Demanded p w ss ts c f i is
  demanded (by_step x y z) is apart l ns nt ws wt n alike done pcs off =
      let d = claimed.stepped p w ss ts c f x y z is apart l ns nt ws wt alike done pcs off in
      record { call_same = d.call_same; answers_same = d.answers_same; states_same = d.states_same; window_same = d.window_same }
  demanded by_fetch is apart l ns nt ws wt n alike done pcs off =
      let d = claimed.fetched p w ss ts c f is apart l ns nt ws wt n alike done pcs off in
      record { call_same = d.call_same; answers_same = d.answers_same; states_same = d.states_same; window_same = d.window_same }

  twice : (i : Way) (is : List Turn) → parted p w (sp (task_of ss c) r_o) (hole_of w (task_of ss c) i + 1) c is → c < length ss
      → Sized (task_of ss c) → Sized (task_of ts c) → Words (task_of ss c) → Words (task_of ts c)
      → NamesBy i (opcode_of f) w (task_of ss c) → TasksAlike c (hole_of w (task_of ss c) i) ss ts → (call_of p w c f ss i).reply ≡ 0
      → (task_of (call_of p w c f ss i).state c).pc ≡ (task_of (call_of p w c f ts i).state c).pc
      → All (Off (Within (sp (task_of ss c) r_o) (hole_of w (task_of ss c) i + 1))) (run_needs_by both studies (needed c) (call_of p w c f ss i).state (call_of p w c f ss i).memory is)
      → Demanded p w ss ts c f i []
      → Twice (Within (sp (task_of ss c) r_o) (hole_of w (task_of ss c) i)) (Within (sp (task_of ss c) r_o) (hole_of w (task_of ss c) i + 1)) (call_of p w c f ss i) (call_of p w c f ts i) is
  unfolding runs
  twice i is apart l ns nt ws wt n alike done pcs off e =
      let o : Outcome (List State) Windows = call_of p w c f ss i in
      let u : Outcome (List State) Windows = call_of p w c f ts i in
      let a : ℕ = sp (task_of ss c) r_o in
      let F : ℕ → Type 0 = Within a (hole_of w (task_of ss c) i) in
      let G : ℕ → Type 0 = Within a (hole_of w (task_of ss c) i + 1) in
      let os : sp (caller_by i w (task_of ss c)) r_o ≡ a = by_r_o i w (task_of ss c) in
      let d : Demanded p w ss ts c f i is = demanded i is apart l ns nt ws wt n alike done pcs off in
      let q : CalledBy (refusing_in p (shapes_of w)) w (task_of ss c) f i = was_called studies (task_caller c p) w ss f i n done in
      let fine : unruled_by (shapes_of o.memory) ≡ 0 = ap unruled_by (after_shape p w ss c i (opcode_of f) []) ∙ q.passed.fine in
      let agree : Agree both F o.memory u.memory
      = agree_of F o.memory u.memory fine (subst (λ (b : ℕ). SameOutside (Within b (hole_of w (task_of ss c) i)) o.memory u.memory) os e.window_same) in
      let touched : All (Off G) (run_touches both studies o.state o.memory is) = claimed.clears p w a (hole_of w (task_of ss c) i + 1) c is ss (item_by i (opcode_of f)) q.passed.fits apart off in
      let same : run_touches both studies o.state o.memory is ≡ run_touches both studies u.state u.memory is
      = run_touches_agree both both_lawful studies F studies_sound is o.state o.memory u.memory agree (narrow a (hole_of w (task_of ss c) i) (run_touches both studies o.state o.memory is) touched)
      ∙ ap (λ (qs : List State). run_touches both studies qs u.memory is) e.states_same in
      record {
        call_same = d.call_same;
        answers_same = d.answers_same;
        states_same = d.states_same;
        window_same = subst (λ (b : ℕ). SameOutside (Within b (hole_of w (task_of ss c) i)) (after_turns o is).memory (after_turns u is).memory) os d.window_same;
        off_too = subst (λ (xs : List ℕ). All (Off G) xs) same touched;
      }

-- right after the call
called_alike : (p : Own) (w : Windows) (ss ts : List State) (c : ℕ) (f : Call) (i : Way) → c < length ss → Sized (task_of ss c) → Sized (task_of ts c)
    → Words (task_of ss c) → Words (task_of ts c) → NamesBy i (opcode_of f) w (task_of ss c)
    → TasksAlike c (hole (task_of ss c) (x_by i w (task_of ss c))) ss ts → (turn_on p w ss c (item_by i (opcode_of f))).reply ≡ 0
    → (task_of (turn_on p w ss c (item_by i (opcode_of f))).state c).pc ≡ (task_of (turn_on p w ts c (item_by i (opcode_of f))).state c).pc
    → Demanded p w ss ts c f i []
unfolding run_needs_by All
called_alike p w ss ts c f i l ns nt ws wt n alike done pcs = demanded any_parts (λ c. turn_needs) any_claimed p w ss ts c f i [] tt l ns nt ws wt n alike done pcs tt

pub twice_by : (parted : Condition) (needed : Reading) → Claimed parted needed → TwiceBy parted needed
twice_by parted needed claimed k bs ss ts w v cl dl c a =
    let l : Cut = behind k bs in
    let i : Way = k.how in
    let f : Call = k.kind in
    let m : Windows = (at_call k ss w).memory in
    let es : List State = (at_call k ss w).state in
    let gs : List State = (at_call l ts v).state in
    let s : State = caller_at k ss w in
    let t : State = caller_at l ts v in
    let h : ℕ = hole_at k ss w in
    let F : ℕ → Type 0 = Within (sp s r_o) h in
    let G : ℕ → Type 0 = Within (sp s r_o) (h + 1) in
    let n : NamesBy i (opcode_of f) m s = c.names in
    let alike : Alike h s t = a.alike.caller in
    let both_runs : Twice F G (called_at k ss w) (called_at l ts v) k.list
    = subst (λ (x : Windows). (task_of (called_at k ss w).state k.task).pc ≡ (task_of (turn_on k.part x gs k.task (item_by i (opcode_of f))).state k.task).pc
    → Twice F G (called_at k ss w) (turn_on k.part x gs k.task (item_by i (opcode_of f))) k.list) a.windows_same
    (λ pcs. twice parted needed claimed k.part m es gs k.task f i k.list c.parts cl.there cl.sized dl.sized cl.words dl.words n a.alike c.done pcs c.off
    (called_alike k.part m es gs k.task f i cl.there cl.sized dl.sized cl.words dl.words n a.alike c.done pcs)) a.targets_same in
    let holes : h ≡ hole_at l ts v
    = same_hole i m s t alike.pc_same alike.special_same ∙ ap (λ (x : Windows). hole t (x_by i x t)) a.windows_same in
    let tops : sp s r_o ≡ sp t r_o = ap (λ (x : List ℕ). get_or x r_o 0) alike.special_same in
    record {
      call_same = both_runs.call_same;
      answers_same = both_runs.answers_same;
      states_same = both_runs.states_same;
      window_same = both_runs.window_same;
      second_back = touched_back l ts v dl
          (subst (λ (x : Windows). NamesBy i (opcode_of f) x t) a.windows_same (names_too i (opcode_of f) m s t alike.pc_same n)) (both_runs.call_same ∙ c.done)
          (subst (λ (x : ℕ). All (Off (Within x (hole_at l ts v + 1))) (run_touches both studies (called_at l ts v).state (called_at l ts v).memory k.list)) tops
          (subst (λ (x : ℕ). All (Off (Within (sp s r_o) (x + 1))) (run_touches both studies (called_at l ts v).state (called_at l ts v).memory k.list)) holes both_runs.off_too));
    }

pub anywhere_twice : AnywhereTwice
anywhere_twice = twice_by any_parts (λ c. turn_needs) any_claimed

pub anywhere_own_twice : AnywhereOwnTwice
anywhere_own_twice = twice_by OwnFrame own_needs own_claimed
