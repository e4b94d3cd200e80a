-- A parked context anywhere in the turns that a list of calls tried, from the turns' (crate task_model).
use Rattle.model.proofs.Prelude.{ℕ, ◌<◌, List, ap, subst, sym, ◌∙◌, arith, get_or, length, runs, both}
use Rattle.claims.proofs.Prelude.{State, ComesBack, at_save, saver_at, SaverThere, save_turn, turns_parked, turns_to_unsave, Unparked, unsave_turn, studies}
use Rattle.claims.proofs.Prelude.{task_of, Turn, cut_ends}
use Rattle.task_model.proofs.ParkedAnywhere.{parked_anywhere}
use Rattle.claims.specs.TaskCalls.{states_held, task_last_held, all_turns}
use Rattle.claims.specs.TaskLists.{TasksCarried}
use Rattle.claims.specs.ParkedAnywhereCalls.{ParkedAnywhereCalls}
use Rattle.claims.proofs.HeldLists.{AllIntact, all_intact, task_held, states_length}
use Rattle.claims.proofs.Ranges.{Ranged}
use Rattle.claims.proofs.TurnsRange.{TurnsFit, fit_first, chain_fit, held_ranged}
use Rattle.claims.proofs.TaskLists.{lists_of_task_calls}

pub parked_anywhere_calls : ParkedAnywhereCalls
parked_anywhere_calls hs w cs k hf b f m e l sd ak =
    let h : AllIntact hs = all_intact hs hf in
    let ss : List State = states_held hs in
    let fits : TurnsFit (length hs) (turns_parked k) = subst (TurnsFit (length hs)) e (chain_fit hs w cs h b f m) in
    let r : Ranged ss (at_save k ss w).state (at_save k ss w).memory = held_ranged hs w k.before h b (fit_first (length hs) k.before _ fits) in
    let there : k.task < length (at_save k ss w).state = omega (arith, r.count, states_length hs) in
    let sv : SaverThere k ss w = record { there = there; sized = (r.each k.task there).range.sized; words = (r.each k.task there).range.words } in
    let u : Unparked k ss w = parked_anywhere k ss w sv sd ak in
    let t : TasksCarried hs w cs (runs both studies ss w (all_turns hs w cs)) = lists_of_task_calls hs w cs hf b f m in
    record {
      back = u.back;
      answer_is = ap (λ (xs : List ℕ). get_or xs (length (turns_to_unsave k)) 1) (t.answers_are ∙ ap (λ (ts : List Turn). (runs both studies ss w ts).answers) e) ∙ u.answer_is;
      held_back = λ z. subst (ComesBack (saver_at k ss w)) (sym (sym (task_held (task_last_held hs cs) k.task)
          ∙ ap (λ (qs : List State). task_of qs k.task) (t.states_are ∙ ap (λ (ts : List Turn). (runs both studies ss w ts).state) e ∙ cut_ends ss w k.before (save_turn k) k.list (unsave_turn k) k.rest z))) u.back.state_back;
    }
