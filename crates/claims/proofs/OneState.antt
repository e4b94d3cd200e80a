-- One state as one task.
use Rattle.model.proofs.Prelude.{suc, zero, ℕ, List, [], ◌++◌, ◌∷◌, ap, refl, sym, ◌∙◌, ◌≡◌, arith, Bytes, shapes_of, Windows, Item}
use Rattle.claims.proofs.Prelude.{Own, Turn, turn, turns_shape}
use Rattle.claims.specs.OneCall.{Held, Made, asked}
use Rattle.claims.specs.Calls.{Chain, items, AllFit}
use Rattle.claims.proofs.OneCall.{Intact, intact}
use Rattle.claims.specs.TaskCalls.{states_held, alone, TaskMade, AloneMet, TaskMeetsBy, whole_of, turns_of, turns_by, FitsBy, TaskChain, AllFitIn, all_turns}
use Rattle.claims.specs.OneState.{as_tasks, OneIsTasks, OneState}
use Rattle.claims.proofs.HeldLists.{AllIntact}
use Rattle.claims.proofs.WholeTurns.{AsTurns}
use Rattle.claims.proofs.TaskChains.{call_made}
use Rattle.claims.proofs.CallTwins.{wholes_same}

fit_both : (is js : List Item) → AllFit (is ++ js) → AllFit is × AllFit js
unfolding AllFit
fit_both [] js f = (tt, f)
fit_both (i ∷ is) js f = ((f.0, (fit_both is js f.1).0), (fit_both is js f.1).1)

turns_append : (k : ℕ) (p : Own) (is js : List Item) → turns_of k p (is ++ js) ≡ turns_of k p is ++ turns_of k p js
unfolding turns_of
turns_append k p [] js = refl
turns_append k p (i ∷ is) js = ap (λ (l : List Turn). turn k p i ∷ l) (turns_append k p is js)

one_intact : (g : Held) → Intact g → AllIntact (g ∷ [])
one_intact g h zero l = h
one_intact g h (suc k) l = absurd (omega arith)

one : (g : Held) (w : Windows) (cs : List Made) → Intact g → Bytes w → AllFit (items cs) → Chain g w cs → OneIsTasks g w cs
unfolding Chain items TaskChain AllFitIn all_turns as_tasks TaskMeetsBy FitsBy turns_by
one g w [] h b f m = record { chain_is = tt; fits_are = tt; turns_are = unfold turns_of in refl }
one g w (c ∷ cs) h b f m =
    let fs : AllFit (asked c) × AllFit (items cs) = fit_both (asked c) (items cs) f in
    let t : TaskMade = record { entry = alone 0 c.entry; reply = c.reply; count = c.count; counts = []; refusals = []; held = c.held ∷ []; window = c.window } in
    let met : AloneMet (g ∷ []) w 0 c.entry t = record { there = omega arith; contract = m.0; others = refl } in
    let meets : TaskMeetsBy (g ∷ []) w (alone 0 c.entry) t = met in
    let fit : FitsBy (alone 0 c.entry) c.reply c.count = fs.0 in
    let a : AsTurns (g ∷ []) w (turns_by (g ∷ []) w (alone 0 c.entry) c.reply c.count) (c.held ∷ []) c.window
    = call_made (g ∷ []) w (alone 0 c.entry) t (one_intact g h) b fit meets in
    let r : OneIsTasks c.held c.window cs = one c.held c.window cs (a.whole 0 (omega arith)) a.bytes fs.1 m.1 in
    let same : whole_of c.window ≡ whole_of w
    = wholes_same c.window w (ap shapes_of a.window_is ∙ turns_shape (turns_by (g ∷ []) w (alone 0 c.entry) c.reply c.count) (states_held (g ∷ [])) w) in
    let first : turns_by (g ∷ []) w (alone 0 c.entry) c.reply c.count ≡ turns_of 0 (whole_of w) (asked c) = refl in
    record {
      chain_is = (meets, r.chain_is);
      fits_are = (fit, r.fits_are);
      turns_are = (λ i. first i ++ (r.turns_are ∙ ap (λ (p : Own). turns_of 0 p (items cs)) same) i) ∙ sym (turns_append 0 (whole_of w) (asked c) (items cs));
    }

pub one_state : OneState
one_state g w cs h = one g w cs (intact g h)
