-- What a run means: 1, 2, 22 and 25 in order; what is ready to be fetched from stays so; and the laws of `run_for` at the machine's own.
use Rattle.model.proofs.Logic.{suc, ℕ, ◌+◌, ◌<◌, ◌≤◌, Bool, cond, false, true, ◌≢◌, ap, refl, sym, ◌∙◌, ◌≡◌, arith, eqb, ltb, eqb-false, eqb-true}
use Rattle.model.proofs.Logic.{le-ltb, lt-ltb, ltb-false, ltb-true, ne_eqb}
use Rattle.model.specs.Memory.{Windows, shapes_of, ruled, shares, both}
use Rattle.model.specs.Plan.{Outcome}
use Rattle.model.specs.Lists.{step_on}
use Rattle.model.specs.Registers.{Sized, admissible}
use Rattle.model.specs.Step.{unruled_by, refusing, fetched_plan, fetched_of, fetched, item_plan, mmix}
use Rattle.model.specs.Run.{Stopped, more, stopped_by, run_for, grant_most, refused_whole, run_of}
use Rattle.model.specs.Order.{Passes}
use Rattle.model.specs.RunMeant.{onward, CallPasses, Listed, RunIsMeant, RunsInOrder}
use Rattle.model.specs.declared.State.{State}
use Rattle.model.proofs.Memory.{both_lawful}
use Rattle.model.proofs.Plan.{perform_shape}
use Rattle.model.proofs.Entry.{unruled_none, unruled_two, unruled_shared}
use Rattle.model.proofs.Fetched.{passing}
use Rattle.model.proofs.Invariants.{items_keep}
use Rattle.model.proofs.RunLaws.{run_none, run_done, run_refused, run_by, run_spent, run_stops, run_larger, IsList, run_listed}

-- an item that is fetched
pub fetched_on : (w : Windows) (s : State) → step_on both mmix s w fetched ≡ fetched_of w s
unfolding step_on mmix item_plan fetched_of both
fetched_on w s = refl

-- ---- what a run may begin from, and all that it reaches

pub record Ready (w : Windows) (s : State) : Type 0 where
  pub sized : Sized s
  pub passes : Passes w s

pub fetched_shapes : (w : Windows) (s : State) → shapes_of (fetched_of w s).memory ≡ shapes_of w
unfolding fetched_of both
fetched_shapes w s = perform_shape both both_lawful (refusing (shapes_of w)) s (fetched_plan s (shapes_of w)) w

pub fetched_sized : (w : Windows) (s : State) → Sized s → Sized (fetched_of w s).state
fetched_sized w s n = rw (← fetched_on w s) (items_keep.sized w s fetched n)

pub fetched_admissible : (w : Windows) (s : State) → Sized s → admissible s ≡ true → admissible (fetched_of w s).state ≡ true
fetched_admissible w s n a = rw (← fetched_on w s) (items_keep.admitted w s fetched n a)

pub fetched_ready : (w : Windows) (s : State) → Ready w s → Ready (fetched_of w s).memory (fetched_of w s).state
fetched_ready w s h =
    let e : shapes_of (fetched_of w s).memory ≡ shapes_of w = fetched_shapes w s in
    record {
      sized = fetched_sized w s h.sized;
      passes = record {
        admitted = fetched_admissible w s h.sized h.passes.admitted;
        windowed = ap ruled e ∙ h.passes.windowed;
        apart = ap shares e ∙ h.passes.apart;
      };
    }

abbrev running : ℕ → State → Windows → Stopped State Windows
running = run_for both mmix fetched

-- at the end of a run
pub run_ready : (grant : ℕ) (w : Windows) (s : State) → Ready w s → Ready (running grant s w).memory (running grant s w).state
run_ready grant w s h =
    run_by both mmix fetched (λ t m. Ready m t) (λ r. Ready r.memory r.state) (λ n r q. q) (λ t m q. q) (λ t m q n. kept t m q) (λ t m q d. kept t m q) grant s w h
  where
    kept : (t : State) (m : Windows) → Ready m t → Ready (step_on both mmix t m fetched).memory (step_on both mmix t m fetched).state
    kept t m q = rw (fetched_on m t) (fetched_ready m t q)

-- ---- 1, 2, 22, 25

one_first : (w : Windows) (s : State) (grant : ℕ) → admissible s ≡ false → run_of w s grant ≡ refused_whole 1 w s
unfolding run_of
one_first w s grant a = rw a

pub run_unruled : (w : Windows) (s : State) (grant : ℕ) → admissible s ≡ true → unruled_by (shapes_of w) ≢ 0 → run_of w s grant ≡ refused_whole (unruled_by (shapes_of w)) w s
unfolding run_of
run_unruled w s grant a n = rw (a, ne_eqb (unruled_by (shapes_of w)) 0 n)

two_next : (w : Windows) (s : State) (grant : ℕ) → admissible s ≡ true → ruled (shapes_of w) ≡ false → run_of w s grant ≡ refused_whole 2 w s
two_next w s grant a r =
    let e : unruled_by (shapes_of w) ≡ 2 = unruled_two (shapes_of w) r in
    run_unruled w s grant a (λ q. omega arith) ∙ ap (λ (n : ℕ). refused_whole n w s) e

twenty_two : (w : Windows) (s : State) (grant : ℕ) → admissible s ≡ true → ruled (shapes_of w) ≡ true → shares (shapes_of w) ≡ true → run_of w s grant ≡ refused_whole 22 w s
twenty_two w s grant a r n =
    let e : unruled_by (shapes_of w) ≡ 22 = unruled_shared (shapes_of w) r n in
    run_unruled w s grant a (λ q. omega arith) ∙ ap (λ (n : ℕ). refused_whole n w s) e

twenty_five : (w : Windows) (s : State) (grant : ℕ) → Passes w s → grant_most < grant → run_of w s grant ≡ refused_whole 25 w s
unfolding run_of
twenty_five w s grant h l = rw (h.admitted, passing w s h, lt-ltb grant_most grant l)

pub run_open : (w : Windows) (s : State) (grant : ℕ) → CallPasses w s grant → run_of w s grant ≡ running grant s w
unfolding run_of
run_open w s grant c = rw (c.passes.admitted, passing w s c.passes, le-ltb grant_most grant c.granted)

-- what holds of the four refusals and of the instructions holds of the call
pub call_by : (Q : Stopped State Windows → Type 0) (w : Windows) (s : State) (grant : ℕ)
    → (admissible s ≡ false → Q (refused_whole 1 w s))
    → (admissible s ≡ true → unruled_by (shapes_of w) ≢ 0 → Q (refused_whole (unruled_by (shapes_of w)) w s))
    → (Passes w s → grant_most < grant → Q (refused_whole 25 w s))
    → (CallPasses w s grant → Q (running grant s w))
    → Q (run_of w s grant)
call_by Q w s grant one unruled large passed = go (admissible s) refl
  where
    grants : (b : Bool) → ltb grant_most grant ≡ b → Passes w s → Q (run_of w s grant)
    grants true e h = rw (twenty_five w s grant h (ltb-true _ _ e)) (large h (ltb-true _ _ e))
    grants false e h = let c : CallPasses w s grant = record { passes = h; granted = ltb-false _ _ e } in rw (run_open w s grant c) (passed c)

    rules : (b : Bool) → eqb (unruled_by (shapes_of w)) 0 ≡ b → admissible s ≡ true → Q (run_of w s grant)
    rules true e a =
        let r : (ruled (shapes_of w) ≡ true) × (shares (shapes_of w) ≡ false) = unruled_none (shapes_of w) (eqb-true _ _ e) in
        grants (ltb grant_most grant) refl (record { admitted = a; windowed = r.0; apart = r.1 })
    rules false e a = rw (run_unruled w s grant a (eqb-false _ _ e)) (unruled a (eqb-false _ _ e))

    go : (b : Bool) → admissible s ≡ b → Q (run_of w s grant)
    go true a = rules (eqb (unruled_by (shapes_of w)) 0) refl a
    go false a = rw (one_first w s grant a) (one a)

pub runs_in_order : RunsInOrder
runs_in_order = record { one_first = one_first; two_next = two_next; twenty_two = twenty_two; twenty_five = twenty_five; most = refl }

-- ---- the rest

spent : (w : Windows) (s : State) (grant : ℕ) → CallPasses w s grant → (run_of w s grant).reply ≡ 0 → (run_of w s grant).done ≡ grant
spent w s grant c = rw (run_open w s grant c) (run_spent both mmix fetched grant s w)

refused : (w : Windows) (s : State) (grant : ℕ) → CallPasses w s grant → (run_of w s grant).reply ≢ 0 → (run_of w s grant).done < grant
refused w s grant c = rw (run_open w s grant c) (run_stops both mmix fetched grant s w)

spent_only : (w : Windows) (s : State) (grant : ℕ) → CallPasses w s grant → (run_of w s grant).done ≡ grant → (run_of w s grant).reply ≡ 0
spent_only w s grant c d = go (eqb (run_of w s grant).reply 0) refl
  where
    go : (b : Bool) → eqb (run_of w s grant).reply 0 ≡ b → (run_of w s grant).reply ≡ 0
    go true e = eqb-true _ _ e
    go false e = absurd (let l : (run_of w s grant).done < grant = refused w s grant c (eqb-false _ _ e) in omega arith)

none : (w : Windows) (s : State) → Passes w s → run_of w s 0 ≡ refused_whole 0 w s
none w s h = run_open w s 0 (record { passes = h; granted = omega arith }) ∙ run_none both mmix fetched s w

turn : (w : Windows) (s : State) (grant : ℕ) → Sized s → CallPasses w s (grant + 1)
    → run_of w s (grant + 1) ≡ cond (eqb (fetched_of w s).reply 0) (more 1 (run_of (fetched_of w s).memory (fetched_of w s).state grant)) (stopped_by (fetched_of w s))
turn w s grant n c =
    let k : grant + 1 ≡ suc grant = omega arith in
    run_open w s (grant + 1) c ∙ ap (λ (g : ℕ). running g s w) k ∙ go (eqb (fetched_of w s).reply 0) refl
  where
    l : Ready (fetched_of w s).memory (fetched_of w s).state
    l = fetched_ready w s (record { sized = n; passes = c.passes })

    go : (b : Bool) → eqb (fetched_of w s).reply 0 ≡ b
        → running (suc grant) s w ≡ cond b (more 1 (run_of (fetched_of w s).memory (fetched_of w s).state grant)) (stopped_by (fetched_of w s))
    go true e =
        run_done both mmix fetched grant s w (ap (λ (o : Outcome State Windows). o.reply) (fetched_on w s) ∙ eqb-true _ _ e)
        ∙ ap (λ (o : Outcome State Windows). more 1 (running grant o.state o.memory)) (fetched_on w s)
        ∙ ap (more 1) (sym (run_open _ _ grant (record { passes = l.passes; granted = let m : grant + 1 ≤ grant_most = c.granted in omega arith })))
    go false e =
        run_refused both mmix fetched grant s w (λ q. eqb-false _ _ e (sym (ap (λ (o : Outcome State Windows). o.reply) (fetched_on w s)) ∙ q))
        ∙ ap (λ (o : Outcome State Windows). stopped_by o) (fetched_on w s)

larger : (w : Windows) (s : State) (grant further : ℕ) → Sized s → CallPasses w s (grant + further) → run_of w s (grant + further) ≡ onward (run_of w s grant) further
larger w s g h n c =
    let m : g + h ≤ grant_most = c.granted in
    let l : Ready (running g s w).memory (running g s w).state = run_ready g w s (record { sized = n; passes = c.passes }) in
    run_open w s (g + h) c ∙ run_larger both mmix fetched g h s w
    ∙ ap (λ (r : Stopped State Windows). cond (eqb (running g s w).reply 0) (more (running g s w).done r) (running g s w))
    (sym (run_open (running g s w).memory (running g s w).state h (record { passes = l.passes; granted = omega arith })))
    ∙ sym (ap (λ (r : Stopped State Windows). onward r h) (run_open w s g (record { passes = c.passes; granted = omega arith })))

listed : (w : Windows) (s : State) (grant : ℕ) → CallPasses w s grant → Listed w s (run_of w s grant)
listed w s grant c =
    let h : IsList both mmix fetched s w (running grant s w) = run_listed both mmix fetched grant s w in
    rw (run_open w s grant c) (record { answers_are = h.answers_are; state_is = h.state_is; memory_is = h.memory_is })

pub run_is_meant : RunIsMeant
run_is_meant = record {
  spent = spent;
  spent_only = spent_only;
  refused = refused;
  none = none;
  turn = turn;
  larger = larger;
  listed = listed;
}
