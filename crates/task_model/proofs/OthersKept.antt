-- No turn alters another task's state or part: it sets its own state alone, and of B it stores in its own part alone, whose octabytes have no byte of a part
-- that is apart and splits none. Where the windows break their rules it stores nothing.
use Rattle.model.proofs.Prelude.{ℕ, ◌%◌, ◌*◌, ◌+◌, ◌/◌, ◌<◌, ◌^◌, ◌≤◌, Bool, false, true, List, inl, inr, ◌≢◌, ◌⊎◌, ap, refl, subst, sym, ◌∙◌, ◌≡◌, ℕ_discrete}
use Rattle.model.proofs.Prelude.{arith, eqb, get_or, length, get_or_eq_default, get_or-set_other, eqb-false, eqb-true, both, has, offset, shape_of, Shapes}
use Rattle.model.proofs.Prelude.{shapes_of, Windows, tell, octa, Agree, map_outcome, Off, Outcome, perform, fresh, exception, fetched, fetched_plan, Item}
use Rattle.model.proofs.Prelude.{item_plan, step, step_plan, unruled_by, Ruled, ruled_b, byte_has, bytes_agree, guarded_leaves, offset_byte, said_by_law, unruled_none}
use Rattle.model.proofs.Prelude.{lt_or_le, step_kept, touches_of, both_lawful, has_octa, All_map, Kept, touches_judged}
use Rattle.task_model.proofs.Prelude.{State}
use Rattle.task_model.specs.Tasks.{Own, owns, refusing_in, task_of, turn, turn_judge, studies}
use Rattle.task_model.specs.TaskDemand.{turn_on, Disjoint, NoneAltersAnother}
use Rattle.task_model.proofs.Parts.{owns_is, is_owned}
use Rattle.task_model.proofs.Judge.{passed, owns_both, studies_sound}
use Rattle.task_model.proofs.Callers.{turn_does, turn_shape}

-- ---- bytes of parts

-- a part that splits no octabyte has, with a byte, the first of that byte's octabyte
owns_first : (r : Own) (d : ℕ) → r.start % 8 ≡ 0 → owns r d ≡ true → owns r (8 * (d / 8)) ≡ true
owns_first r d al e =
    let b : (r.start ≤ d) × (d < r.start + r.size) = owns_is r d e in
    let lo : r.start ≤ d = b.0 in
    let hi : d < r.start + r.size = b.1 in
    is_owned r (8 * (d / 8)) (omega arith) (omega arith)

-- ---- a turn

-- the windows break their rules: nothing is stored
item_leaves : (j : ℕ → ℕ) (w : Windows) (s : State) (i : Item) → unruled_by (shapes_of w) ≢ 0 → (perform both j s (item_plan s (shapes_of w) i) w).memory ≡ w
unfolding item_plan step_plan fetched_plan tell
item_leaves j w s (step op x y z) n = guarded_leaves j w s s _ n
item_leaves j w s (exception f op x y z u v) n = ap (λ (o : Outcome State Windows). o.memory) (said_by_law j w s _ _)
item_leaves j w s fetched n = guarded_leaves j w s s _ n

module _ (w : Windows) (ss : List State) (k : ℕ) (p : Own) (i : Item) where
  state_kept : (j : ℕ) → j ≢ k → task_of (turn_on p w ss k i).state j ≡ task_of ss j
  unfolding map_outcome
  state_kept j n = ap (λ (o : Outcome (List State) Windows). task_of o.state j) (turn_does k p ss w i) ∙ get_or-set_other ss k j _ fresh n

  memory_is : (turn_on p w ss k i).memory ≡ (perform both (refusing_in p (shapes_of w)) (task_of ss k) (item_plan (task_of ss k) (shapes_of w) i) w).memory
  unfolding map_outcome
  memory_is = ap (λ (o : Outcome (List State) Windows). o.memory) (turn_does k p ss w i)

  module _ (r : Own) (apart : Disjoint p r) (al : r.start % 8 ≡ 0) (d : ℕ) (own : owns r d ≡ true) where
    abbrev a : ℕ
    a = w.b.base + d

    -- p's judge passes no address of the octabyte of byte d
    off : unruled_by (shapes_of w) ≡ 0 → d < length w.b.bytes → (b : ℕ) → refusing_in p (shapes_of w) b ≡ 0 → octa b ≡ octa a → ⊥
    unfolding shapes_of shape_of offset
    off u l b e q =
        let rb : Ruled (shape_of w.b) = ruled_b (shapes_of w) (unruled_none (shapes_of w) u).0 in
        let n : length w.b.bytes < 2 ^ 60 = rb.size_most in
        let same : offset w.b.base b ≡ offset w.b.base a = rw q in
        let first : offset w.b.base b ≡ 8 * (d / 8) = same ∙ offset_byte w.b.base d rb.base_aligned rb.base_word (omega arith) in
        let h : has (shape_of w.b) b ≡ true = has_octa (shape_of w.b) b a q ∙ byte_has w.b d rb l in
        let o : owns p (offset w.b.base b) ≡ true = (passed p (shapes_of w) b e).1 h in
        owns_both p r (8 * (d / 8)) apart (subst (λ (x : ℕ). owns p x ≡ true) first o) (owns_first r d al own)

    -- so that octabyte is kept, and with it its bytes
    byte_kept : unruled_by (shapes_of w) ≡ 0 → d < length w.b.bytes → get_or (turn_on p w ss k i).memory.b.bytes d 0 ≡ get_or w.b.bytes d 0
    byte_kept u l = sym ((bytes_agree (λ o. o ≢ octa a) w (turn_on p w ss k i).memory u agree).in_b.byte_same d (λ n. n refl))
      where
        kept : Kept both (λ o. o ≡ octa a) w (turn_on p w ss k i).memory
        kept = step_kept both both_lawful studies (λ o. o ≡ octa a) studies_sound ss w (turn k p i) (unfold touches_of studies turn_judge both in
            (All_map (λ b. refusing_in p (shapes_of w) b ≡ 0) (Off (λ o. o ≡ octa a)) _ (off u l) (touches_judged both (refusing_in p (shapes_of w)) _ w)))

        agree : Agree both (λ o. o ≢ octa a) w (turn_on p w ss k i).memory
        agree = record { shape_same = sym kept.shape_kept; rest_same = λ b n. octa_same b n (ℕ_discrete (octa b) (octa a)) }
          where
            octa_same : (b : ℕ) → Off (λ o. o ≢ octa a) b → Dec (octa b ≡ octa a) → both.raw w b ≡ both.raw (turn_on p w ss k i).memory b
            octa_same b n (yes e) = sym (kept.octa_kept b e)
            octa_same b n (no e) = absurd (n e)

    length_kept : length (turn_on p w ss k i).memory.b.bytes ≡ length w.b.bytes
    length_kept = unfold shape_of shapes_of both in (ap (λ (x : Shapes). x.b.size) (turn_shape ss w (turn k p i)))

    part_kept : get_or (turn_on p w ss k i).memory.b.bytes d 0 ≡ get_or w.b.bytes d 0
    part_kept = go (eqb (unruled_by (shapes_of w)) 0) refl (lt_or_le d (length w.b.bytes))
      where
        go : (b : Bool) → eqb (unruled_by (shapes_of w)) 0 ≡ b → (d < length w.b.bytes) ⊎ (length w.b.bytes ≤ d)
            → get_or (turn_on p w ss k i).memory.b.bytes d 0 ≡ get_or w.b.bytes d 0
        go true e (inl l) = byte_kept (eqb-true _ _ e) l
        go true e (inr l) = get_or_eq_default (turn_on p w ss k i).memory.b.bytes 0 (omega (arith, length_kept)) ∙ sym (get_or_eq_default w.b.bytes 0 l)
        go false e l = ap (λ (m : Windows). get_or m.b.bytes d 0) (memory_is ∙ item_leaves (refusing_in p (shapes_of w)) w (task_of ss k) i (eqb-false _ _ e))

pub none_alters_another : NoneAltersAnother
none_alters_another w ss k p i = record { state_kept = state_kept w ss k p i; part_kept = part_kept w ss k p i }
