-- One call of several tasks on two windows that agree outside F, of which its turns touch nothing: the schedule is driven by answers alone, so that both give
-- the same turns and end alike.
use Rattle.model.proofs.Prelude.{min, ℕ, ◌-◌, ◌<◌, List, ◌∷◌, ap, refl, subst, ◌≡◌, eqb, replicate, eqb-false, tab, runs, both, Shapes, shapes_of, Windows}
use Rattle.model.proofs.Prelude.{Agree, All, Off, Stopped, tried, fetched, run_touches, touches_of, All_left, All_right, by_test, needs_append}
use Rattle.claims.proofs.Prelude.{State, call_of, call_refusal, part_at, Tasked, tasks_in, tasks_most, tasks_of, turn_run, worked, count_by, Desk, gave, Given}
use Rattle.claims.proofs.Prelude.{refusal_by, studies, Turn, turn, CallListed, tried_answers, tried_turns, studies_sound, given_listed, turn_listed, Beside}
use Rattle.claims.proofs.Prelude.{call_beside, ran_by}
use Rattle.claims.proofs.Agreed.{SameStopped, run_agree}

module _ (F : ℕ → Type 0) (w : Windows) (ss : List State) (ns : List ℕ) (q : ℕ) where
  -- what the turns touch that were tried
  abbrev touched_by : List Given → List ℕ
  touched_by gs = run_touches both studies ss w (tried_turns ns gs)

  abbrev Clear : Desk (List State) Windows → Type 0
  Clear x = All (Off F) (touched_by x.given)

  -- one list of states, windows that agree; and the first desk is where its turns lead
  pub record Level (x y : Desk (List State) Windows) : Type 0 where
    pub states_same : x.states ≡ y.states
    pub agree : Agree both F x.memory y.memory
    pub listed : CallListed w ss ns x

  abbrev gives : ℕ → Desk (List State) Windows → Desk (List State) Windows
  gives k x = gave (turn_run ns) (tasks_in ns) q k x (ran_by (turn_run ns) (tasks_in ns) q k x)

  abbrev its : ℕ → Stopped (List State) Windows → List Turn
  its k r = replicate (tried r) (turn k (part_at ns k) fetched)

  touches_both : (k : ℕ) (x : Desk (List State) Windows) → Clear (gives k x)
      → Clear x × All (Off F) (run_touches both studies (runs both studies ss w (tried_turns ns x.given)).state
      (runs both studies ss w (tried_turns ns x.given)).memory (its k (ran_by (turn_run ns) (tasks_in ns) q k x)))
  unfolding tried_turns
  touches_both k x o =
      let e = needs_append both studies (touches_of both studies) (tried_turns ns x.given) (its k (ran_by (turn_run ns) (tasks_in ns) q k x)) ss w in
      let h = subst (All (Off F)) e o in
      (All_left (Off F) (touched_by x.given) _ h, All_right (Off F) (touched_by x.given) _ h)

  gives_level : (k : ℕ) (x y : Desk (List State) Windows) → k < tasks_in ns → Beside Level x y → Clear (gives k x) → Beside Level (gives k x) (gives k y)
  unfolding turn_run
  gives_level k x y l b o =
      let lev : Level x y = b.related in
      let r : Stopped (List State) Windows = ran_by (turn_run ns) (tasks_in ns) q k x in
      let clear : All (Off F) (run_touches both studies x.states x.memory (its k r))
      = subst (λ (m : Windows). All (Off F) (run_touches both studies x.states m (its k r))) lev.listed.memory_is
      (subst (λ (t : List State). All (Off F) (run_touches both studies t (runs both studies ss w (tried_turns ns x.given)).memory (its k r)))
      lev.listed.states_are (touches_both k x o).1) in
      let t : SameStopped studies F studies_sound r (ran_by (turn_run ns) (tasks_in ns) q k y)
      = subst (SameStopped studies F studies_sound r) (λ i. turn_run ns k (min q (b.left_same i)) (lev.states_same i) y.memory)
      (run_agree studies F studies_sound (turn k (part_at ns k) fetched) (min q x.left) x.states x.memory y.memory lev.agree clear) in
      record {
        left_same = λ i. b.left_same i - t.done_same i;
        given_same = λ i. record { task = k; done = t.done_same i; reply = t.reply_same i } ∷ b.given_same i;
        related = record {
          states_same = t.state_same;
          agree = t.memory_same;
          listed = given_listed w ss ns q k x r (turn_listed w ss ns q k (min q x.left) x.states x.memory) lev.listed;
        };
      }

  desks_same : (u : Windows) (grant : ℕ) → Agree both F w u → Clear (call_of w ss ns q grant) → Beside Level (call_of w ss ns q grant) (call_of u ss ns q grant)
  unfolding call_of
  desks_same u grant a o =
      call_beside Level Clear (turn_run ns) (turn_run ns) (tasks_in ns) q (λ k x h. (touches_both k x h).0) gives_level grant ss w ss u
      (record {
        states_same = refl;
        agree = a;
        listed = record { answers_are = unfold tried_turns tried_answers runs in refl; states_are = unfold tried_turns runs in refl; memory_is = unfold tried_turns runs in refl };
      }) o

  -- the call, refused whole or not
  pub record SameTasked (u : Windows) (grant : ℕ) (a b : Tasked) : Type 0 where
    pub reply_same : a.reply ≡ b.reply
    pub counts_same : a.counts ≡ b.counts
    pub refusals_same : a.refusals ≡ b.refusals
    pub states_same : a.states ≡ b.states
    pub agree : Agree both F a.memory b.memory
    pub given_same : a.reply ≡ 0 → (call_of w ss ns q grant).given ≡ (call_of u ss ns q grant).given

  pub tasks_same : (u : Windows) (grant : ℕ) → Agree both F w u → ((tasks_of w ss ns q grant).reply ≡ 0 → Clear (call_of w ss ns q grant))
      → SameTasked u grant (tasks_of w ss ns q grant) (tasks_of u ss ns q grant)
  unfolding tasks_of both
  tasks_same u grant a =
      by_test {A = Tasked} {B = Tasked} (λ x y. (x.reply ≡ 0 → Clear (call_of w ss ns q grant)) → SameTasked u grant x y)
      (eqb (call_refusal (shapes_of w) ss ns q grant) 0) (eqb (call_refusal (shapes_of u) ss ns q grant) 0) (λ i. eqb (same i) 0) (λ e o. worked_same (o refl))
      (λ e o. record {
        reply_same = same;
        counts_same = refl;
        refusals_same = refl;
        states_same = refl;
        agree = a;
        given_same = λ z. absurd (eqb-false _ _ e z);
      })
    where
      same : call_refusal (shapes_of w) ss ns q grant ≡ call_refusal (shapes_of u) ss ns q grant
      same = ap (λ (sh : Shapes). call_refusal sh ss ns q grant) a.shape_same

      worked_same : Clear (call_of w ss ns q grant) → SameTasked u grant (worked (call_of w ss ns q grant)) (worked (call_of u ss ns q grant))
      worked_same o =
          let d : Beside Level (call_of w ss ns q grant) (call_of u ss ns q grant) = desks_same u grant a o in
          record {
            reply_same = refl;
            counts_same = ap (λ (gs : List Given). tab 0 tasks_most (λ k. count_by k gs)) d.given_same;
            refusals_same = ap (λ (gs : List Given). tab 0 tasks_most (λ k. refusal_by k gs)) d.given_same;
            states_same = d.related.states_same;
            agree = d.related.agree;
            given_same = λ z. d.given_same;
          }
