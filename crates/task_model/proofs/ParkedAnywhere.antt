-- A parked context anywhere in a list of turns: SAVE is Parked's of task c on its part, UNSAVE that of task c on another.
use Rattle.model.proofs.Prelude.{ℕ, ◌*◌, ◌+◌, List, ⊎_elim, ap, subst, sym, ◌∙◌, ◌≡◌, set, extent, Shapes, shapes_of, Windows, op_save, map_outcome, Off, worst}
use Rattle.model.proofs.Prelude.{r_o, sp, item_by, Way, reply_of', of_worst, saved_on, Saves}
use Rattle.task_model.proofs.Prelude.{State}
use Rattle.task_model.specs.Tasks.{Own, refusing_in, studies}
use Rattle.task_model.specs.Parked.{Context, UnparksTo}
use Rattle.task_model.proofs.Callers.{turn_does, task_caller, turns_off}
use Rattle.task_model.proofs.Parked.{SaveItem, save_item, Survives, parked, survives}
use Rattle.task_model.proofs.ParkedTasks.{task_wraps, unparks_to}
use Rattle.task_model.specs.ParkedAnywhere.{save_turn, unsave_turn, at_save, saved_at, at_unsave, unsaved_at, saver_at, saver_x, ParkedAnywhere}
use Rattle.task_model.proofs.Cuts.{cut_answer}
use Rattle.task_model.proofs.Anywhere.{after_shape}

pub parked_anywhere : ParkedAnywhere
unfolding map_outcome
parked_anywhere k ss w sv sd ak =
    let c : ℕ = k.task in
    let p : Own = k.part in
    let r : Own = k.back_part in
    let v : Windows = (at_save k ss w).memory in
    let es : List State = (at_save k ss w).state in
    let s : State = saver_at k ss w in
    let x : ℕ = saver_x k ss w in
    let i : Way = k.how in
    let u : Way = k.back_how in
    let same : shapes_of (at_unsave k ss w).memory ≡ shapes_of v = after_shape p v es c i op_save k.list in
    let it : SaveItem (refusing_in p (shapes_of v)) v s i
    = save_item (refusing_in p (shapes_of v)) v s i sd.names (sym (reply_of' studies (task_caller c p) es v (item_by i op_save)) ∙ sd.done) in
    let next : State = parked studies (task_caller c r) (task_wraps r) v es i u k.list sv.there sv.sized sv.words in
    let o : saved_at k ss w ≡ record { reply = 0; state = set es c next; memory = saved_on v s }
    = turn_does c p es v (item_by i op_save) ∙ ap (map_outcome (λ t. set es c t)) it.outcome_is in
    let fits : worst (refusing_in r (shapes_of v)) (sp s r_o) (extent s) ≡ 0
    = ⊎_elim (λ e. subst (λ (q : Own). worst (refusing_in q (shapes_of v)) (sp s r_o) (extent s) ≡ 0) (sym e) it.saves.fits)
    (λ l. of_worst (refusing_in r (shapes_of v)) (extent s) (sp s r_o) (λ n m. subst (λ (q : Shapes). refusing_in r q (sp s r_o + 8 * n) ≡ 0) same (l n m))) ak.lets in
    let saves : Saves (refusing_in r (shapes_of v)) v s x = record { admits = it.saves.admits; fine = it.saves.fine; global = it.saves.global; fits = fits } in
    let b : UnparksTo c s (at_unsave k ss w) (unsaved_at k ss w)
    = unparks_to r c s (at_unsave k ss w) (unsaved_at k ss w)
    (subst (Survives studies (task_caller c r) (task_wraps r) v es i u k.list sv.there sv.sized sv.words) (sym o)
    (survives studies (task_caller c r) (task_wraps r) v es i u k.list sv.there sv.sized sv.words saves sd.byte)
    (turns_off (Off (Context s)) k.list (saved_at k ss w).state (saved_at k ss w).memory sd.off) ak.asks) in
    record { back = b; answer_is = cut_answer ss w k.before (save_turn k) k.list (unsave_turn k) k.rest 1 ∙ b.done }
