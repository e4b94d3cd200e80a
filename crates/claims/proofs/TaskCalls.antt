-- Demand 3 of the C functions with several tasks, from the tasks' demand: a list of calls is a list of turns on the states that are held (TaskChains). After the
-- call both runs hold the same, and their windows agree outside the frame's locals, of which the turns touch nothing: so each call ends alike.
use Rattle.model.proofs.Prelude.{ℕ, ◌+◌, ◌<◌, List, [], ap, refl, subst, sym, ◌∙◌, ◌≡◌, arith, length, set, AtPop, opcode_of, SameOutside, Within, hole, Fits}
use Rattle.model.proofs.Prelude.{Ran, run_needs_by, runs, step_on, both, shapes_of, Windows, Agree, All, Off, Outcome, fresh, r_o, sp, Item, item_plan, mmix, step}
use Rattle.model.proofs.Prelude.{step_of, unruled_by, agree_of, step_done, All_map}
use Rattle.claims.proofs.Prelude.{State, after_turns, PrivateTo, turn_on, Own, studies, task_of, Turn, turn, turn_needs, turns_shape, turn_shape, set_alike}
use Rattle.claims.specs.OneCall.{Held, struct, held_state, HeldIs}
use Rattle.claims.proofs.Forms.{form_after_law, form_asked, same_held}
use Rattle.claims.proofs.Calls.{asked_step}
use Rattle.claims.specs.TaskCalls.{all_turns, held_by, states_held, TaskEntry, AloneMet, TaskMeetsBy, whole_of, TaskChain, task_last_held, task_last_window, calls_need, Demand3TaskCalls}
use Rattle.claims.proofs.HeldLists.{AllIntact, all_intact, task_held, states_length}
use Rattle.claims.proofs.WholeTurns.{AsTurns}
use Rattle.claims.proofs.TaskChains.{chain_made, chain_needs, SameCalls, same_calls}
use Rattle.claims.proofs.TaskPop.{CallMade, item_called, claim_at, returns_held}

-- ---- the theorem

narrow : (a h : ℕ) (xs : List ℕ) → All (Off (Within a (h + 1))) xs → All (Off (Within a h)) xs
narrow a h xs o = All_map _ _ xs (λ b f e. f (record { place = e.place; place_below = let l : e.place < h = e.place_below in omega arith; named_by = e.named_by })) o

step_reply : (w : Windows) (s : State) (op x y z : ℕ) → (step_on both mmix s w (step op x y z)).reply ≡ (step_of w s op x y z).reply
unfolding step_on mmix item_plan both step_of
step_reply w s op x y z = refl

pub demand3_task_calls : Demand3TaskCalls
unfolding TaskChain TaskMeetsBy runs run_needs_by All both Fits
demand3_task_calls w hs ks c f x y z e a b cs ds there hf kf hw fit fs alike ea asks eb es ga gb done pcs off =
    let op : ℕ = opcode_of f in
    let i : Item = step (opcode_of f) x y z in
    let s : State = held_state (held_by hs c) in
    let t : State = held_state (held_by ks c) in
    let h : ℕ = hole s x in
    let p : Own = whole_of w in
    let F : ℕ → Type 0 = Within (sp s r_o) h in
    let frame : ℕ → Type 0 = Off (Within (sp s r_o) (h + 1)) in
    let ss : List State = states_held hs in
    let ts : List State = states_held ks in
    let hi : AllIntact hs = all_intact hs hf in
    let ki : AllIntact ks = all_intact ks kf in
    let there_too : c < length ks = omega (arith, alike.count_same) in
    let ma : AloneMet hs w c e a = subst (λ (n : TaskEntry). TaskMeetsBy hs w n a) ea ga.0 in
    let mb : AloneMet ks w c e b = subst (λ (n : TaskEntry). TaskMeetsBy ks w n b) (eb ∙ ea) gb.0 in
    let pa : CallMade hs w c i a = item_called hs w c i e a hi hw fit asks ma in
    let pb : CallMade ks w c i b
    = item_called ks w c i e b ki hw fit (asked_step e a.reply a.count b.reply b.count op x y z asks) mb in
    let o : Outcome (List State) Windows = turn_on p w ss c i in
    let u : Outcome (List State) Windows = turn_on p w ts c i in
    let its_a : held_state (held_by a.held c) ≡ task_of o.state c = sym (task_held a.held c) ∙ ap (λ (q : List State). task_of q c) pa.states_are in
    let its_b : held_state (held_by b.held c) ≡ task_of u.state c = sym (task_held b.held c) ∙ ap (λ (q : List State). task_of q c) pb.states_are in
    let private : (is : List Turn) → All frame (run_needs_by both studies turn_needs o.state o.memory is) → PrivateTo p c h s t o u is
    = λ is clear. claim_at p w ss ts c f x y z is s t (task_held hs c) (task_held ks c) (rw (states_length hs) there)
    (hi c there).sized (ki c there_too).sized (hi c there).words (ki c there_too).words
    (states_length hs ∙ alike.count_same ∙ sym (states_length ks)) alike.caller
    (λ k n. task_held hs k ∙ ap held_state (alike.others k n) ∙ sym (task_held ks k)) (sym pa.reply_is ∙ done)
    (ap (λ (q : State). q.pc) (sym its_a) ∙ pcs ∙ ap (λ (q : State). q.pc) its_b) clear in
    -- after the call: both hold the same, and the windows agree
    let d0 : PrivateTo p c h s t o u [] = private [] tt in
    let states : o.state ≡ u.state = d0.states_same in
    let one : held_by a.held c ≡ held_by b.held c
    = same_held _ _ _ pa.its.whole.back
    (subst (HeldIs (held_by b.held c)) (its_b ∙ ap (λ (q : List State). task_of q c) (sym states) ∙ sym its_a) pb.its.whole.back)
    (form_after_law (held_by hs c) w e _ _ _ _ (hi c there).sized ma.contract ∙ form_asked e _ _ _ _ _ asks ∙ sym (form_after_law (held_by ks c) w e _ _ _ _ (ki c there_too).sized mb.contract)) in
    let held : a.held ≡ b.held
    = ma.others ∙ ap (set hs c) one ∙ set_alike (struct fresh) c hs ks alike.count_same alike.others there (held_by b.held c) ∙ sym mb.others in
    let shape_a : shapes_of a.window ≡ shapes_of w = ap shapes_of pa.window_is ∙ turn_shape ss w (turn c p i) in
    let fine : unruled_by (shapes_of a.window) ≡ 0 = ap unruled_by shape_a ∙ (step_done w s op x y z (sym (step_reply w s op x y z) ∙ sym pa.its.reply_is ∙ done)).1 in
    let agree : Agree both F a.window b.window
    = agree_of F a.window b.window fine
    (subst (λ (v : Windows). SameOutside F v b.window) (sym pa.window_is) (subst (SameOutside F o.memory) (sym pb.window_is) d0.window_same)) in
    -- the lists
    let same : SameCalls a.held a.window b.window cs ds
    = same_calls F a.held a.window b.window cs ds pa.whole pa.bytes agree fs es ga.1
    (subst (λ (l : List Held). TaskChain l b.window ds) (sym held) gb.1) (narrow (sp s r_o) h (calls_need a.held a.window cs) off) in
    let is : List Turn = all_turns a.held a.window cs in
    let ra : AsTurns a.held a.window is (task_last_held a.held cs) (task_last_window a.window cs)
    = chain_made a.held a.window cs pa.whole pa.bytes fs ga.1 in
    let rb : AsTurns b.held b.window is (task_last_held b.held ds) (task_last_window b.window ds)
    = subst (λ (js : List Turn). AsTurns b.held b.window js (task_last_held b.held ds) (task_last_window b.window ds))
    (sym (same.turns_same ∙ ap (λ (l : List Held). all_turns l b.window ds) held)) (chain_made b.held b.window ds pb.whole pb.bytes same.fits_too gb.1) in
    let d : PrivateTo p c h s t o u is
    = private is (subst (λ (v : Windows). All frame (run_needs_by both studies turn_needs o.state v is)) pa.window_is
    (subst (λ (q : List State). All frame (run_needs_by both studies turn_needs q a.window is)) pa.states_are
    (subst (All frame) (sym (chain_needs a.held a.window cs pa.whole pa.bytes fs ga.1)) off))) in
    -- where both end
    let end_a : runs both studies (states_held a.held) a.window is ≡ after_turns o is = λ j. runs both studies (pa.states_are j) (pa.window_is j) is in
    let end_b : runs both studies (states_held b.held) b.window is ≡ after_turns u is = λ j. runs both studies (pb.states_are j) (pb.window_is j) is in
    let states_a : states_held (task_last_held a.held cs) ≡ (after_turns o is).state = ra.states_are ∙ ap (λ (r : Ran (List State) Windows). r.state) end_a in
    let states_b : states_held (task_last_held b.held ds) ≡ (after_turns u is).state = rb.states_are ∙ ap (λ (r : Ran (List State) Windows). r.state) end_b in
    let window_a : task_last_window a.window cs ≡ (after_turns o is).memory = ra.window_is ∙ ap (λ (r : Ran (List State) Windows). r.memory) end_a in
    let window_b : task_last_window b.window ds ≡ (after_turns u is).memory = rb.window_is ∙ ap (λ (r : Ran (List State) Windows). r.memory) end_b in
    let at_pop_law : AtPop h (sp (held_state (held_by a.held c)) r_o) (held_state (held_by (task_last_held a.held cs) c))
    → AtPop h (sp (task_of o.state c) r_o) (task_of (after_turns o is).state c)
    = λ at. subst (λ (q : State). AtPop h (sp q r_o) (task_of (after_turns o is).state c)) its_a
    (subst (AtPop h (sp (held_state (held_by a.held c)) r_o)) (sym (task_held (task_last_held a.held cs) c) ∙ ap (λ (q : List State). task_of q c) states_a) at) in
    record {
      call_same = pb.reply_is ∙ d.call_same ∙ sym pa.reply_is;
      replies_same = same.replies_same;
      tallies_same = same.tallies_same;
      held_same = same.held_same ∙ ap (λ (l : List Held). task_last_held l ds) held;
      window_same = subst (λ (v : Windows). SameOutside F v (task_last_window b.window ds)) (sym window_a)
          (subst (SameOutside F (after_turns o is).memory) (sym window_b) d.window_same);
      first_back = λ at. returns_held w _ _ c h s (after_turns o is) (ap shapes_of window_a ∙ turns_shape is o.state o.memory ∙ turn_shape ss w (turn c p i))
          (omega (arith, ra.count, pa.count)) ra.whole ra.bytes states_a window_a (d.first_back (at_pop_law at));
      second_back = λ at. returns_held w _ _ c h t (after_turns u is) (ap shapes_of window_b ∙ turns_shape is u.state u.memory ∙ turn_shape ts w (turn c p i))
          (omega (arith, rb.count, pb.count)) rb.whole rb.bytes states_b window_b (d.second_back (at_pop_law at));
    }
