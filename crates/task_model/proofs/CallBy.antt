-- A call by step or fetched, of any caller in a machine: what it leaves; the POP after it, by a caller in the same place with another judge; two runs.
use Rattle.model.proofs.Prelude.{ℕ, ◌+◌, ◌≤◌, ap, refl, subst, sym, ◌∙◌, ◌≡◌, Call, opcode_of, hole, Machine, step_on, both, Shapes, shapes_of, Windows}
use Rattle.model.proofs.Prelude.{map_outcome, perform, worst, r_g, r_o, sp, Words, item_plan, tetra_of, y_in, z_in, by_fetch, by_step, item_by, NamesBy, Way, x_by}
use Rattle.model.proofs.Prelude.{claim_good, Good, call_open, call_passed, hole_le, target_of_call, called_by, Caller, Calls, Passed, reply_of', claim_hole}
use Rattle.model.proofs.Prelude.{claim_other, fetched_calls, fetched_passed, WasCalled, both_lawful, push_from, claim_words}
use Rattle.task_model.proofs.Prelude.{State}
use Rattle.task_model.specs.Anywhere.{caller_by}

-- a call that is done, by the judge j
pub record CalledBy (j : ℕ → ℕ) (w : Windows) (s : State) (f : Call) (i : Way) : Type 0 where
  pub target : ℕ
  pub passed : Passed j w s (hole s (x_by i w s))
  pub calls : Calls j w s (item_by i (opcode_of f)) (caller_by i w s) (hole s (x_by i w s)) target

pub called_by_law : (j : ℕ → ℕ) (w : Windows) (s : State) (f : Call) (i : Way) → NamesBy i (opcode_of f) w s
    → (perform both j s (item_plan s (shapes_of w) (item_by i (opcode_of f))) w).reply ≡ 0 → CalledBy j w s f i
called_by_law j w s f (by_step x y z) n d =
    let m : Passed j w s (hole s x) = call_passed f j w s x y z d in
    record { target = target_of_call f s y z; passed = m; calls = call_open f j w s x y z m.admitted m.fine }
called_by_law j w s f by_fetch n d =
    let m : WasCalled j w s = fetched_passed f j w s n d in
    record {
      target = target_of_call f (caller_by by_fetch w s) (y_in (tetra_of w s)) (z_in (tetra_of w s));
      passed = m.passed;
      calls = fetched_calls f j w s (tetra_of w s) m.passed.admitted m.passed.fine m.there refl n;
    }

-- the state that it pushes from
pub by_r_o : (i : Way) (w : Windows) (s : State) → sp (caller_by i w s) r_o ≡ sp s r_o
by_r_o (by_step x y z) w s = refl
by_r_o by_fetch w s = claim_other s (x_by by_fetch w s) r_o refl

pub by_good : (i : Way) (w : Windows) (s : State) → Good s → Good (caller_by i w s)
by_good (by_step x y z) w s g = g
by_good by_fetch w s g = claim_good s (x_by by_fetch w s) g

pub by_words : (i : Way) (w : Windows) (s : State) → Words s → Words (caller_by i w s)
by_words (by_step x y z) w s g = g
by_words by_fetch w s g = claim_words s (x_by by_fetch w s) g

pub by_hole : (i : Way) (w : Windows) (s : State) → Good s → hole s (x_by i w s) ≤ sp (caller_by i w s) r_g
by_hole (by_step x y z) w s g = hole_le s x g.admits
by_hole by_fetch w s g =
    let x : ℕ = x_by by_fetch w s in
    subst (λ (n : ℕ). n ≤ sp (caller_by by_fetch w s) r_g) (claim_hole s x) (hole_le (caller_by by_fetch w s) x (claim_good s x g).admits)

module _ {S I : Type 0} (mc : Machine S I Shapes) (k : Caller mc) (w : Windows) (ss : S) (f : Call) (i : Way) where
  -- what the machine's item leaves
  pub call_leaves : (c : CalledBy (k.judge (shapes_of w)) w (k.get ss) f i)
      → step_on both mc ss w (k.does (item_by i (opcode_of f))) ≡ called_by mc k w ss (caller_by i w (k.get ss)) (hole (k.get ss) (x_by i w (k.get ss))) c.target
  unfolding map_outcome
  call_leaves c =
      let s : State = k.get ss in
      let j : ℕ → ℕ = k.judge (shapes_of w) in
      let h : ℕ = hole s (x_by i w s) in
      k.does_is ss w (item_by i (opcode_of f))
      ∙ ap (map_outcome (k.put ss)) (c.calls ∙ push_from both both_lawful j s (caller_by i w s) h c.target w
      (subst (λ (o : ℕ). worst j o (h + 1) ≡ 0) (sym (by_r_o i w s)) c.passed.fits))

  pub was_called : NamesBy i (opcode_of f) w (k.get ss) → (step_on both mc ss w (k.does (item_by i (opcode_of f)))).reply ≡ 0 → CalledBy (k.judge (shapes_of w)) w (k.get ss) f i
  was_called n d = called_by_law (k.judge (shapes_of w)) w (k.get ss) f i n (sym (reply_of' mc k ss w (item_by i (opcode_of f))) ∙ d)
