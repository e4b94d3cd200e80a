-- The machine `studies`: each task is a caller in it; what a turn touches, in either reading of the needs.
use Rattle.model.proofs.Prelude.{ℕ, ◌<◌, Bool, cond, false, true, List, [], ◌∷◌, inl, inr, ◌≢◌, ◌⊎◌, refl, ◌∙◌, ◌≡◌, ℕ_discrete, arith, eqb, length, length-set}
use Rattle.model.proofs.Prelude.{set, get_or-set_other, get_or-set_same, eqb-false, eqb-true, needs_of, run_needs_by, step_on, both, has, Shapes, shapes_of, Windows}
use Rattle.model.proofs.Prelude.{octa, All, map_outcome, Off, perform, Plan, fresh, Item, item_plan, Good, Caller, good_keeps, item_keeps, by_reading, run_touches}
use Rattle.model.proofs.Prelude.{touches_of, both_lawful, All_both, All_left, All_map, All_right, All_zip, Always, Always_map, Always_mapped, Always_of}
use Rattle.model.proofs.Prelude.{perform_shape, touches, touches_judged, touches_off}
use Rattle.task_model.proofs.Prelude.{needs, State}
use Rattle.task_model.specs.Tasks.{Own, refusing_in, mmix_in, task_of, Turn, turn, turn_judge, turn_plan, studies, without32, turn_needs}
use Rattle.task_model.specs.TaskDemand.{Disjoint, PartsApart, own_needs}
use Rattle.task_model.proofs.Judge.{sound_in, studies_sound, never_both}
use Rattle.task_model.proofs.Turns.{turn_is}

-- ---- a turn

-- by the plan of its item
pub turn_does : (c : ℕ) (p : Own) (ss : List State) (w : Windows) (i : Item)
    → step_on both studies ss w (turn c p i)
    ≡ map_outcome (λ t. set ss c t) (perform both (refusing_in p (shapes_of w)) (task_of ss c) (item_plan (task_of ss c) (shapes_of w) i) w)
turn_does c p ss w i = turn_is p ss w c i ∙ (unfold step_on mmix_in both in refl)

pub turn_shape : (ss : List State) (w : Windows) (t : Turn) → both.shape (step_on both studies ss w t).memory ≡ both.shape w
unfolding step_on
turn_shape ss w t = perform_shape both both_lawful (studies.judge ss (both.shape w) t) ss (studies.plan ss (both.shape w) t) w

-- ---- task c, on part p, as a caller

-- it is there, and good: its own turns keep it so, others' leave it
pub studies_keeps : (c : ℕ) (ss : List State) (w : Shapes) (t : Turn) → (c < length ss) × Good (task_of ss c)
    → Always (λ ts. (c < length ts) × Good (task_of ts c)) (studies.plan ss w t)
unfolding studies turn_plan
studies_keeps c ss w (turn k p i) h =
    Always_mapped (λ ts. (c < length ts) × Good (task_of ts c)) (λ t. set ss k t) (item_plan (task_of ss k) w i) (go (ℕ_discrete c k))
  where
    go : Dec (c ≡ k) → Always (λ t. (c < length (set ss k t)) × Good (task_of (set ss k t) c)) (item_plan (task_of ss k) w i)
    go (yes e) =
        let g : Good (task_of ss k) = rw e at h.1 in
        let l : k < length ss = rw e at h.0 in
        Always_map Good (λ t. (c < length (set ss k t)) × Good (task_of (set ss k t) c))
        (λ t q. (rw (length-set ss k t) h.0, rw (e, get_or-set_same ss k t fresh l) q)) (item_plan (task_of ss k) w i)
        (item_keeps Good Good good_keeps (λ t q. q) (task_of ss k) w i (λ x. g) g)
    go (no n) = Always_of (λ t. (c < length (set ss k t)) × Good (task_of (set ss k t) c))
        (λ t. (rw (length-set ss k t) h.0, rw (get_or-set_other ss k c t fresh n) h.1)) (item_plan (task_of ss k) w i)

pub set_there : (c : ℕ) (ss : List State) (t : State) → c < length ss → c < length (set ss c t)
set_there c ss t l = rw (length-set ss c t) l

abbrev pub task_caller : ℕ → Own → Caller studies
task_caller c p = record {
  There = λ ss. c < length ss;
  get = λ ss. task_of ss c;
  put = λ ss t. set ss c t;
  judge = refusing_in p;
  does = turn c p;
  get_put = λ ss t l. get_or-set_same ss c t fresh l;
  put_there = set_there c;
  sound = sound_in p;
  all_sound = studies_sound;
  keeps = studies_keeps c;
  does_is = turn_does c p;
}

-- ---- readings of the needs

kept_32 : (j : ℕ → ℕ) (P : ℕ → Type 0) (xs : List ℕ) → All P (without32 j xs) → All (λ a. (j a ≡ 32) ⊎ P a) xs
unfolding without32 All
kept_32 j P [] h = tt
kept_32 j P (x ∷ xs) h = go (eqb (j x) 32) refl (kept_32 j P xs) h
  where
    go : (b : Bool) → eqb (j x) 32 ≡ b → (All P (without32 j xs) → All (λ a. (j a ≡ 32) ⊎ P a) xs)
        → All P (cond b (without32 j xs) (x ∷ without32 j xs)) → ((j x ≡ 32) ⊎ P x) × All (λ a. (j a ≡ 32) ⊎ P a) xs
    go true e r g = (inl (eqb-true _ _ e), r g)
    go false e r g = (inr g.0, r g.1)

-- no turn touches what 32 refuses it
turn_off : (P : ℕ → Type 0) (ss : List State) (m : Windows) (t : Turn) → All P (turn_needs ss m t) → All P (touches_of both studies ss m t)
unfolding turn_needs needs_of touches_of
turn_off P ss m t h =
    All_zip (λ a. j a ≡ 0) (λ a. (j a ≡ 32) ⊎ P a) P (touches both j p m) only (touches_judged both j p m)
    (touches_off both both_lawful (λ a. (j a ≡ 32) ⊎ P a) j p m (kept_32 j P (needs both j p m) h))
  where
    j : ℕ → ℕ
    j = studies.judge ss (both.shape m) t

    p : Plan (List State)
    p = studies.plan ss (both.shape m) t

    only : (a : ℕ) → j a ≡ 0 → (j a ≡ 32) ⊎ P a → P a
    only a e (inl f) = absurd (omega arith)
    only a e (inr f) = f

pub turns_off : (P : ℕ → Type 0) (is : List Turn) (ss : List State) (m : Windows) → All P (run_needs_by both studies turn_needs ss m is) → All P (run_touches both studies ss m is)
turns_off P = by_reading both studies P turn_needs (touches_of both studies) (turn_off P)

-- F lies in B and passes c's judge: no turn on a part apart touches it
module _ (r : Own) (c : ℕ) (F : ℕ → Type 0) (sh : Shapes) (lies : (a : ℕ) → F (octa a) → has sh.b a ≡ true) (passes : (a : ℕ) → F (octa a) → refusing_in r sh a ≡ 0) where
  own_off : (ss : List State) (m : Windows) (k : ℕ) (p : Own) (i : Item) → (k ≢ c → Disjoint r p) → both.shape m ≡ sh
      → All (Off F) (own_needs c ss m (turn k p i)) → All (Off F) (touches_of both studies ss m (turn k p i))
  unfolding own_needs needs_of touches_of
  own_off ss m k p i apart s h = go (eqb k c) refl h
    where
      j : ℕ → ℕ
      j = studies.judge ss (both.shape m) (turn k p i)

      q : Plan (List State)
      q = studies.plan ss (both.shape m) (turn k p i)

      clean : k ≢ c → (a : ℕ) → j a ≡ 0 → Off F a
      clean n a e f =
          let g : refusing_in p (both.shape m) a ≡ 0 = unfold studies turn_judge in e in
          never_both r p sh a (apart n) (lies a f) (passes a f) (rw s at g)

      go : (b : Bool) → eqb k c ≡ b → All (Off F) (cond b (needs both j q m) []) → All (Off F) (touches both j q m)
      go true e g = touches_off both both_lawful (Off F) j q m g
      go false e g = All_map (λ a. j a ≡ 0) (Off F) (touches both j q m) (clean (eqb-false k c e)) (touches_judged both j q m)

  pub owns_off : (is : List Turn) (ss : List State) (m : Windows) → both.shape m ≡ sh → PartsApart r c is
      → All (Off F) (run_needs_by both studies (own_needs c) ss m is) → All (Off F) (run_touches both studies ss m is)
  unfolding run_needs_by All PartsApart
  owns_off [] ss m s a h = tt
  owns_off (turn k p i ∷ is) ss m s a h =
      All_both (Off F) (touches_of both studies ss m (turn k p i)) _ (own_off ss m k p i a.0 s (All_left (Off F) (own_needs c ss m (turn k p i)) _ h))
      (owns_off is (step_on both studies ss m (turn k p i)).state (step_on both studies ss m (turn k p i)).memory
      (turn_shape ss m (turn k p i) ∙ s) a.1 (All_right (Off F) (own_needs c ss m (turn k p i)) _ h))
