-- A call of several tasks beside another: the schedule is driven by answers alone, so that the turns of the second follow those of the first.
use Rattle.model.proofs.Prelude.{min, suc, zero, ℕ, ◌+◌, ◌-◌, not, ◌&&◌, append_assoc, append-nil, List, [], ◌++◌, ◌∷◌, ap, refl, subst, sym, ◌∙◌, ◌≡◌, ltb}
use Rattle.model.proofs.Prelude.{replicate, Ran, runs, both, Windows, Stopped, tried, fetched, on, by_test}
use Rattle.claims.proofs.Prelude.{State, call_of, part_at, tasks_in, turn_run, any_runs, call_by, Desk, gave, Given, is_over, opened, rounds, running, turn_of}
use Rattle.claims.proofs.Prelude.{turns_from, studies, Turn, turn, CallListed, tried_answers, tried_turns, given_listed, turn_listed, Beside, ran_by}
use Rattle.claims.specs.AnywhereCalls.{Begins}
use Rattle.claims.proofs.Twins.{answers_both, SameEnds, run_twins}
use Rattle.claims.proofs.Begun.{Follows, follows_same, follows_append, follows_grown, follows_where, Alike, alike_first, run_follows}

module _ (w u : Windows) (ss ts : List State) (ns : List ℕ) (q : ℕ) where
  abbrev turns_in : Desk (List State) Windows → List Turn
  turns_in x = tried_turns ns x.given

  abbrev Answered : List Turn → Type 0
  Answered = Alike studies ss w ts u

  -- both desks are where their turns lead
  record Level (x y : Desk (List State) Windows) : Type 0 where
    listed : CallListed w ss ns x
    listed_too : CallListed u ts ns y

  abbrev gives : ℕ → Desk (List State) Windows → Desk (List State) Windows
  gives k x = gave (turn_run ns) (tasks_in ns) q k x (ran_by (turn_run ns) (tasks_in ns) q k x)

  abbrev its : ℕ → Desk (List State) Windows → List Turn
  its k x = replicate (tried (ran_by (turn_run ns) (tasks_in ns) q k x)) (turn k (part_at ns k) fetched)

  -- ---- the turns of a desk are those of one before it, and others

  abbrev Grown : Desk (List State) Windows → Desk (List State) Windows → Type 0
  Grown x y = Begins (turns_in y) (turns_in x)

  grown : (x : Desk (List State) Windows) → Grown x x
  grown x = record { rest = []; turns_are = sym (append-nil (turns_in x)) }

  turn_grown : (k : ℕ) (x y : Desk (List State) Windows) → Grown x y → Grown x (turn_of (turn_run ns) (tasks_in ns) q k y)
  unfolding turn_of tried_turns
  turn_grown k x y g =
      on (Grown x) (ltb 0 y.left && running k y.given)
      (λ e. record { rest = g.rest ++ its k y; turns_are = ap (λ (is : List Turn). is ++ its k y) g.turns_are ∙ append_assoc (turns_in x) g.rest (its k y) }) (λ e. g)

  turns_grown : (m k : ℕ) (x y : Desk (List State) Windows) → Grown x y → Grown x (turns_from (turn_run ns) (tasks_in ns) q k m y)
  unfolding turns_from
  turns_grown zero k x y g = g
  turns_grown (suc m) k x y g = turns_grown m (suc k) x (turn_of (turn_run ns) (tasks_in ns) q k y) (turn_grown k x y g)

  rounds_grown : (f : ℕ) (x y : Desk (List State) Windows) → Grown x y → Grown x (rounds (turn_run ns) (tasks_in ns) q f y)
  unfolding rounds
  rounds_grown zero x y g = g
  rounds_grown (suc f) x y g =
      on (Grown x) (is_over (turn_run ns) (tasks_in ns) q y) (λ e. g)
      (λ e. rounds_grown f x (turns_from (turn_run ns) (tasks_in ns) q 0 (tasks_in ns) y) (turns_grown (tasks_in ns) 0 x y g))

  -- ---- a turn of each

  abbrev after : List State → Windows → List Given → Ran (List State) Windows
  after qs m gs = runs both studies qs m (tried_turns ns gs)

  -- further turns are answered alike from where the desks are
  further : (x y : Desk (List State) Windows) → Beside Level x y → (is : List Turn) → Answered (turns_in x ++ is) → Alike studies x.states x.memory y.states y.memory is
  further x y b is o =
      let lev : Level x y = b.related in
      let xs : (after ss w x.given).state ≡ x.states = lev.listed.states_are in
      let xm : (after ss w x.given).memory ≡ x.memory = lev.listed.memory_is in
      let ys : (after ts u x.given).state ≡ y.states = ap (λ (gs : List Given). (after ts u gs).state) b.given_same ∙ lev.listed_too.states_are in
      let ym : (after ts u x.given).memory ≡ y.memory = ap (λ (gs : List Given). (after ts u gs).memory) b.given_same ∙ lev.listed_too.memory_is in
      sym (λ i. (runs both studies (xs i) (xm i) is).answers) ∙ (answers_both studies (turns_in x) is ss ts w u o).1 ∙ (λ i. (runs both studies (ys i) (ym i) is).answers)

  gives_level : (k : ℕ) (x y : Desk (List State) Windows) → Beside Level x y → Answered (turns_in (gives k x)) → Beside Level (gives k x) (gives k y)
  unfolding turn_run tried_turns
  gives_level k x y b o =
      let lev : Level x y = b.related in
      let r : Stopped (List State) Windows = ran_by (turn_run ns) (tasks_in ns) q k x in
      let t : SameEnds studies r (ran_by (turn_run ns) (tasks_in ns) q k y)
      = subst (SameEnds studies r) (λ i. turn_run ns k (min q (b.left_same i)) y.states y.memory)
      (run_twins studies (turn k (part_at ns k) fetched) (min q x.left) x.states x.memory y.states y.memory (further x y b (its k x) o)) in
      record {
        left_same = λ i. b.left_same i - t.done_same i;
        given_same = λ i. record { task = k; done = t.done_same i; reply = t.reply_same i } ∷ b.given_same i;
        related = record {
          listed = given_listed w ss ns q k x r (turn_listed w ss ns q k (min q x.left) x.states x.memory) lev.listed;
          listed_too = given_listed u ts ns q k y (ran_by (turn_run ns) (tasks_in ns) q k y) (turn_listed u ts ns q k (min q y.left) y.states y.memory) lev.listed_too;
        };
      }

  -- ---- the turns of y follow those of x, and where these are answered alike the desks are side by side

  record Near (x y : Desk (List State) Windows) : Type 0 where
    follows : Follows Answered (turns_in x) (turns_in y)
    beside : Answered (turns_in x) → Beside Level x y

  gives_near : (k : ℕ) (x y : Desk (List State) Windows) → Beside Level x y → Near (gives k x) (gives k y)
  unfolding tried_turns turn_run
  gives_near k x y b = record {
    follows = follows_append Answered (turns_in x) (turns_in y) (its k x) (its k y)
        (subst (λ (gs : List Given). Follows Answered (turns_in x) (tried_turns ns gs)) b.given_same (follows_same Answered (turns_in x)))
        (λ a. follows_where (Alike studies x.states x.memory y.states y.memory) (λ is. Answered (turns_in x ++ is)) (its k x) (its k y) (further x y b)
        (subst (λ (n : ℕ). Follows (Alike studies x.states x.memory y.states y.memory) (its k x)
        (replicate (tried (turn_run ns k (min q n) y.states y.memory)) (turn k (part_at ns k) fetched))) b.left_same
        (run_follows studies (turn k (part_at ns k) fetched) (min q x.left) x.states x.memory y.states y.memory)));
    beside = gives_level k x y b;
  }

  near_on : (x y d e : Desk (List State) Windows) → Near x y → Grown x d → Grown y e → (Beside Level x y → Near d e) → Near d e
  near_on x y d e n g h f = record {
    follows = follows_grown Answered (turns_in x) (turns_in y) (turns_in d) (turns_in e) g h n.follows (λ a. (f (n.beside a)).follows);
    beside = λ a. (f (n.beside (alike_first studies ss w ts u (turns_in x) g.rest (subst Answered g.turns_are a)))).beside a;
  }

  turn_near : (k : ℕ) (x y : Desk (List State) Windows) → Near x y → Near (turn_of (turn_run ns) (tasks_in ns) q k x) (turn_of (turn_run ns) (tasks_in ns) q k y)
  unfolding turn_of
  turn_near k x y n = near_on x y _ _ n (turn_grown k x x (grown x)) (turn_grown k y y (grown y)) (λ b.
      by_test Near (ltb 0 x.left && running k x.given) (ltb 0 y.left && running k y.given)
      (λ i. ltb 0 (b.left_same i) && running k (b.given_same i)) (λ e. gives_near k x y b) (λ e. n))

  turns_near : (m k : ℕ) (x y : Desk (List State) Windows) → Near x y → Near (turns_from (turn_run ns) (tasks_in ns) q k m x) (turns_from (turn_run ns) (tasks_in ns) q k m y)
  unfolding turns_from
  turns_near zero k x y n = n
  turns_near (suc m) k x y n = turns_near m (suc k) (turn_of (turn_run ns) (tasks_in ns) q k x) (turn_of (turn_run ns) (tasks_in ns) q k y) (turn_near k x y n)

  rounds_near : (f : ℕ) (x y : Desk (List State) Windows) → Near x y → Near (rounds (turn_run ns) (tasks_in ns) q f x) (rounds (turn_run ns) (tasks_in ns) q f y)
  unfolding rounds
  rounds_near zero x y n = n
  rounds_near (suc f) x y n = near_on x y _ _ n (rounds_grown (suc f) x x (grown x)) (rounds_grown (suc f) y y (grown y)) (λ b.
      by_test Near (is_over (turn_run ns) (tasks_in ns) q x) (is_over (turn_run ns) (tasks_in ns) q y)
      (λ i. not (ltb 0 (b.left_same i) && any_runs (tasks_in ns) (b.given_same i))) (λ e. n)
      (λ e. rounds_near f (turns_from (turn_run ns) (tasks_in ns) q 0 (tasks_in ns) x) (turns_from (turn_run ns) (tasks_in ns) q 0 (tasks_in ns) y) (turns_near (tasks_in ns) 0 x y n)))

  call_near : (grant : ℕ) → Near (call_of w ss ns q grant) (call_of u ts ns q grant)
  unfolding call_of call_by
  call_near grant = rounds_near (grant + tasks_in ns) (opened (turn_run ns) (tasks_in ns) q grant ss w) (opened (turn_run ns) (tasks_in ns) q grant ts u) (record {
    follows = follows_same Answered (tried_turns ns []);
    beside = λ a. record {
      left_same = refl;
      given_same = refl;
      related = record {
        listed = record { answers_are = unfold tried_turns tried_answers runs in refl; states_are = unfold tried_turns runs in refl; memory_is = unfold tried_turns runs in refl };
        listed_too = record { answers_are = unfold tried_turns tried_answers runs in refl; states_are = unfold tried_turns runs in refl; memory_is = unfold tried_turns runs in refl };
      };
    };
  })

  pub given_follows : (grant : ℕ) → Follows Answered (turns_in (call_of w ss ns q grant)) (turns_in (call_of u ts ns q grant))
  given_follows grant = (call_near grant).follows

  -- the turns that it tried have the same answers: the other call gives the same turns
  pub call_twins : (grant : ℕ) → Answered (turns_in (call_of w ss ns q grant)) → (call_of w ss ns q grant).given ≡ (call_of u ts ns q grant).given
  call_twins grant o = ((call_near grant).beside o).given_same
