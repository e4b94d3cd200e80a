-- A parked context survives: of task c among tasks, and of one state without tasks. Both are Parked's of a caller in a machine.
use Rattle.model.proofs.Prelude.{ℕ, List, ap, refl, subst, ◌∙◌, ◌≡◌, set, get_or-set_other, get_or-set_same, after, after_needs, Ran, step_on, both, Shapes, shapes_of}
use Rattle.model.proofs.Prelude.{Windows, op_save, op_unsave, All, Off, Outcome, fresh, reg, mmix, refusing, done_by, item_by, x_by, mmix_caller, run_touches_off}
use Rattle.model.proofs.Prelude.{both_lawful, octa_mod, refusing_mod, Wraps, done_is}
use Rattle.task_model.proofs.Prelude.{State}
use Rattle.task_model.specs.Tasks.{Own, refusing_in, task_of, studies}
use Rattle.task_model.specs.TaskDemand.{turn_on}
use Rattle.task_model.specs.Parked.{Asks, Context, saved_by, until_unsave, UnparksTo, ParkedTasks, Unparks, ParkedSurvives}
use Rattle.task_model.proofs.Judge.{judge_octa}
use Rattle.task_model.proofs.Callers.{task_caller, turns_off}
use Rattle.task_model.proofs.Parked.{UnparksIn, parked_survives_in}

-- ---- task c

pub task_wraps : (p : Own) (w : Shapes) → Wraps (refusing_in p w)
task_wraps p w a b e = judge_octa p w a b (octa_mod a b e)

pub unparks_to : (p : Own) (c : ℕ) (s : State) (r : Ran (List State) Windows) (o : Outcome (List State) Windows)
    → UnparksIn studies (task_caller c p) (task_wraps p) s r.state r.memory o → UnparksTo c s r o
unparks_to p c s r o h =
    let its : task_of (set r.state c h.end) c ≡ h.end = get_or-set_same r.state c h.end fresh h.there in
    rw h.outcome_is (record {
      done = refl;
      state_back = rw its h.state_back;
      pc_next = ap (λ (t : State). t.pc) its ∙ h.pc_next;
      halt_same = ap (λ (t : State). t.halt) its ∙ h.halt_same;
      others_same = λ k n. get_or-set_other r.state c k h.end fresh n;
      memory_same = refl;
    })

pub parked_tasks : ParkedTasks
parked_tasks p w ss c i u is there n words names byte done off asks =
    unparks_to p c (task_of ss c) (until_unsave p w ss c i is)
    (turn_on p (until_unsave p w ss c i is).memory (until_unsave p w ss c i is).state c (item_by u op_unsave))
    (parked_survives_in studies (task_caller c p) (task_wraps p) w ss i u is there n words names byte done
    (turns_off (Off (Context (task_of ss c))) is (saved_by p w ss c i).state (saved_by p w ss c i).memory off) asks)

-- ---- one state

unparks : (s : State) (r : Ran State Windows) (o : Outcome State Windows) → UnparksIn mmix mmix_caller refusing_mod s r.state r.memory o → Unparks s r o
unparks s r o h =
    rw h.outcome_is (record { done = refl; state_back = h.state_back; pc_next = h.pc_next; halt_same = h.halt_same; memory_same = refl })

pub parked_survives : ParkedSurvives
parked_survives w s i u is n words names byte =
    subst (λ (o : Outcome State Windows). o.reply ≡ 0 → All (Off (Context s)) (after_needs o is)
    → Asks (refusing (shapes_of (after o is).memory)) (after o is).memory (after o is).state (reg o.state (x_by i w s)) u
    → Unparks s (after o is) (done_by u op_unsave (after o is).memory (after o is).state)) (done_is i op_save w s)
    (λ done off asks. let o : Outcome State Windows = step_on both mmix s w (item_by i op_save) in
    subst (Unparks s (after o is)) (done_is u op_unsave (after o is).memory (after o is).state)
    (unparks s (after o is) (step_on both mmix (after o is).state (after o is).memory (item_by u op_unsave))
    (parked_survives_in mmix mmix_caller refusing_mod w s i u is tt n words names byte done
    (run_touches_off both both_lawful mmix (Off (Context s)) is o.state o.memory off) asks)))
