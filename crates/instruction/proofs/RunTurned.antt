-- A fetched instruction and a run as code has them, over plain variables: 24, then what the tetra says; the turns of the loop; 1, 2, 22 and 25.
use Rattle.model.proofs.Prelude.{ℕ, ◌+◌, ◌<◌, ◌≤◌, Bool, cond, false, true, ap, refl, sym, ◌∙◌, ◌≡◌, arith, operand_in, both, holder}
use Rattle.model.proofs.Prelude.{shapes_of, Windows, tetra, Passes, look, admissible, Sized, grant_most, run_for, run_of, Stopped, fetched, fetched_of}
use Rattle.model.proofs.Prelude.{mmix, tetra_at, unruled_by, unruled_none, fetched_missing, fetched_there, fetched_ready, fetched_shapes, Ready, run_open}
use Rattle.model.proofs.Prelude.{run_unruled, runs_in_order}
use Rattle.instruction.proofs.Prelude.{State, refusal_on, judged_by, held_inside, held_none}
use Rattle.model.proofs.RunTurns.{Turned, turned_none, turned_done, turned_refused, turned_spent}
use Rattle.instruction.specs.StepAnswer.{Numbered, RunNumbered}
use Rattle.instruction.specs.FetchedArms.{said_by}

-- ---- one instruction

module _ (w : Windows) (s : State) (a : admissible s ≡ true) (u : unruled_by (shapes_of w) ≡ 0) (h : ℕ) (e : h ≡ holder (shapes_of w) s.pc) where
  pub not_fetched : h ≡ 2 → Numbered (fetched_of w s) 24 s w
  not_fetched q = rw (fetched_missing w s a u (held_none (shapes_of w) s.pc (sym e ∙ q))) (record { reply_is = refl; state_is = refl; window_is = refl })

  -- v is the octabyte at PC, t the tetra there
  pub was_fetched : (h ≡ 2 → ⊥) → (v t : ℕ) → v ≡ look both w s.pc → t ≡ operand_in tetra s.pc v
      → (r : ℕ) (n : State) (m : Windows) → Numbered (said_by w s t) r n m → Numbered (fetched_of w s) r n m
  was_fetched q v t p f r n m g =
      let same : t ≡ tetra_at s (look both w s.pc) = f ∙ (unfold tetra_at in ap (λ (k : ℕ). operand_in tetra s.pc k) p) in
      rw (fetched_there w s a u (held_inside (shapes_of w) s.pc (λ k. q (e ∙ k))), ← same) g

-- ---- the loop

abbrev pub running : ℕ → State → Windows → Stopped State Windows
running = run_for both mmix fetched

pub passed : (w : Windows) (s : State) → admissible s ≡ true → unruled_by (shapes_of w) ≡ 0 → Passes w s
passed w s a u = record { admitted = a; windowed = (unruled_none (shapes_of w) u).0; apart = (unruled_none (shapes_of w) u).1 }

-- after i turns of a run r, from where more may be run
pub record InTurn (grant : ℕ) (r : Stopped State Windows) (i : ℕ) (w : Windows) (s : State) : Type 0 where
  pub turned : Turned grant r i w s
  pub sized : Sized s
  pub admitted : admissible s ≡ true
  pub fine : unruled_by (shapes_of w) ≡ 0
  pub most : i ≤ grant

pub first_turn : (grant : ℕ) (w : Windows) (s : State) → Sized s → admissible s ≡ true → unruled_by (shapes_of w) ≡ 0 → InTurn grant (running grant s w) 0 w s
first_turn grant w s n a u = record { turned = turned_none grant w s; sized = n; admitted = a; fine = u; most = omega arith }

module _ (grant : ℕ) (r : Stopped State Windows) (i : ℕ) (w : Windows) (s : State) (k : InTurn grant r i w s) where
  pub run_spent : grant ≤ i → RunNumbered r 0 i s w
  run_spent n =
      let e : i ≡ grant = let m : i ≤ grant = k.most in omega arith in
      let z : Turned grant r grant w s = rw e at k.turned in
      rw (turned_spent grant r w s z) (record { reply_is = refl; count_is = e; state_is = refl; window_is = refl })

  module _ (b : i < grant) (q : ℕ) (t : State) (v : Windows) (h : Numbered (fetched_of w s) q t v) where
    pub next_shapes : shapes_of v ≡ shapes_of w
    next_shapes = ap shapes_of h.window_is ∙ fetched_shapes w s

    pub next_turn : q ≡ 0 → InTurn grant r (i + 1) v t
    next_turn z =
        let g : Ready (fetched_of w s).memory (fetched_of w s).state = fetched_ready w s (record { sized = k.sized; passes = passed w s k.admitted k.fine }) in
        rw (h.window_is, h.state_is) (record {
          turned = turned_done grant r i w s b k.turned (sym h.reply_is ∙ z);
          sized = g.sized;
          admitted = g.passes.admitted;
          fine = ap unruled_by (fetched_shapes w s) ∙ k.fine;
          most = omega arith;
        })

    pub run_refused : (q ≡ 0 → ⊥) → RunNumbered r q i t v
    run_refused z =
        rw (turned_refused grant r i w s b k.turned (λ e. z (h.reply_is ∙ e)))
        (record { reply_is = h.reply_is; count_is = refl; state_is = h.state_is; window_is = h.window_is })

-- ---- 1, 2, 22, 25

module _ (w : Windows) (s : State) (grant : ℕ) where
  pub run_unopened : (n : ℕ) → n ≡ refusal_on w s → (n ≡ 0 → ⊥) → RunNumbered (run_of w s grant) n 0 s w
  unfolding refusal_on
  run_unopened n e f = go (admissible s) refl e
    where
      go : (b : Bool) → admissible s ≡ b → n ≡ cond b (unruled_by (shapes_of w)) 1 → RunNumbered (run_of w s grant) n 0 s w
      go true a q = rw (run_unruled w s grant a (λ k. f (q ∙ k))) (record { reply_is = q; count_is = refl; state_is = refl; window_is = refl })
      go false a q = rw (runs_in_order.one_first w s grant a) (record { reply_is = q; count_is = refl; state_is = refl; window_is = refl })

  module _ (e : refusal_on w s ≡ 0) where
    good : (admissible s ≡ true) × (unruled_by (shapes_of w) ≡ 0)
    good = judged_by w s e

    pub run_large : grant_most < grant → RunNumbered (run_of w s grant) 25 0 s w
    run_large l = rw (runs_in_order.twenty_five w s grant (passed w s good.0 good.1) l) (record { reply_is = refl; count_is = refl; state_is = refl; window_is = refl })

    pub run_turns : grant ≤ grant_most → (r m : ℕ) (t : State) (v : Windows) → RunNumbered (running grant s w) r m t v → RunNumbered (run_of w s grant) r m t v
    run_turns l r m t v h = rw (run_open w s grant (record { passes = passed w s good.0 good.1; granted = l })) h
