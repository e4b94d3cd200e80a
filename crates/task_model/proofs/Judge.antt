-- Laws of the judge of a task: what it passes lies in a window, and in the task's part where B has it; disjoint parts have no octabyte in common.
use Rattle.model.proofs.Prelude.{ℕ, ◌+◌, ◌<◌, ◌≤◌, Bool, cond, false, not, true, ◌&&◌, List, inl, inr, refl, ◌≡◌, arith, leb, ltb, le-leb, leb-true, lt-ltb}
use Rattle.model.proofs.Prelude.{both, has, offset, Shapes, octa, refusing, judged_inside, has_octa, inside_octa, Sound}
use Rattle.task_model.proofs.Prelude.{State}
use Rattle.task_model.specs.Tasks.{Own, owns, foreign, refusing_in, Turn, turn, turn_judge, studies}
use Rattle.task_model.specs.TaskDemand.{Disjoint}
use Rattle.task_model.proofs.Parts.{owns_is}

-- ---- the judge of a task

-- it passes no more than the windows' judge, and of B no more than the part
pub passed : (p : Own) (w : Shapes) (a : ℕ) → refusing_in p w a ≡ 0 → (refusing w a ≡ 0) × (has w.b a ≡ true → owns p (offset w.b.from a) ≡ true)
unfolding refusing_in foreign
passed p w a = go (has w.b a) (owns p (offset w.b.from a))
  where
    go : (b o : Bool) → cond (b && not o) 32 (refusing w a) ≡ 0 → (refusing w a ≡ 0) × (b ≡ true → o ≡ true)
    go true true h = (h, λ e. refl)
    go true false h = absurd (omega arith)
    go false true h = (h, λ e. refl)
    go false false h = (h, λ e. e)

pub sound_in : (p : Own) (w : Shapes) → Sound both (refusing_in p w) w
unfolding both
sound_in p w a e = judged_inside w a (passed p w a e).0

pub studies_sound : (ss : List State) (w : Shapes) (t : Turn) → Sound both (studies.judge ss w t) w
unfolding studies turn_judge
studies_sound ss w (turn k p i) = sound_in p w

-- it knows an address by its octabyte
pub judge_octa : (p : Own) (w : Shapes) (a b : ℕ) → octa a ≡ octa b → refusing_in p w a ≡ refusing_in p w b
unfolding refusing_in foreign offset refusing
judge_octa p w a b e = rw (e, has_octa w.b a b e, inside_octa w a b e)

-- ---- disjoint parts

pub owns_both : (p r : Own) (d : ℕ) → Disjoint p r → owns p d ≡ true → owns r d ≡ true → ⊥
owns_both p r d h e f = sides h (owns_is p d e) (owns_is r d f)
  where
    sides : Disjoint p r → (p.start ≤ d) × (d < p.start + p.size) → (r.start ≤ d) × (d < r.start + r.size) → ⊥
    sides (inl u) a b = let x : d < p.start + p.size = a.1 in let y : r.start ≤ d = b.0 in omega arith
    sides (inr (inl u)) a b = let x : p.start ≤ d = a.0 in let y : d < r.start + r.size = b.1 in omega arith
    sides (inr (inr (inl u))) a b = let x : p.start ≤ d = a.0 in let y : d < p.start + p.size = a.1 in omega arith
    sides (inr (inr (inr u))) a b = let x : r.start ≤ d = b.0 in let y : d < r.start + r.size = b.1 in omega arith

-- an octabyte of B that one task may touch, none on a part apart may
pub never_both : (p r : Own) (w : Shapes) (a : ℕ) → Disjoint p r → has w.b a ≡ true → refusing_in p w a ≡ 0 → refusing_in r w a ≡ 0 → ⊥
never_both p r w a d h f g = owns_both p r (offset w.b.from a) d ((passed p w a f).1 h) ((passed r w a g).1 h)

-- ---- the whole of B as a part: nothing is foreign

abbrev pub whole : Shapes → Own
whole w = record { start = 0; size = w.b.size }

pub whole_judge : (w : Shapes) (a : ℕ) → refusing_in (whole w) w a ≡ refusing w a
unfolding refusing_in foreign owns
whole_judge w a = go (has w.b a) refl
  where
    go : (b : Bool) → has w.b a ≡ b
        → cond (has w.b a && not (leb 0 (offset w.b.from a) && ltb (offset w.b.from a) (0 + w.b.size))) 32 (refusing w a) ≡ refusing w a
    go true e =
        let l : offset w.b.from a + 8 ≤ w.b.size = leb-true _ _ (unfold has in e) in
        rw (le-leb 0 (offset w.b.from a) (omega arith), lt-ltb (offset w.b.from a) (0 + w.b.size) (omega arith), e)
    go false e = rw e
