-- mmix_tasks on the images of all tasks: as the turns that it tried; and two such calls, on windows that agree outside F, side by side.
use Rattle.model.proofs.Prelude.{ℕ, ◌*◌, ◌+◌, ◌<◌, Bool, cond, false, List, [], ◌≢◌, ap, refl, subst, sym, ◌∙◌, ◌≡◌, arith, eqb, length, eq-eqb, eqb-true}
use Rattle.model.proofs.Prelude.{ne_eqb, Bytes, run_needs_by, runs, both, shapes_of, Windows, Agree, All, Off, and_left, run_touches, by_test}
use Rattle.claims.proofs.Prelude.{State, all_admissible, call_of, Tasked, tasks_in, tasks_of, whole_refused, worked, Desk, studies, task_of, Turn, turn_needs}
use Rattle.claims.proofs.Prelude.{CallListed, tried_turns, tasks_by, TasksPass, turns_off, call_listed, call_ruled, CallRuled, each_length, images_with}
use Rattle.claims.proofs.Prelude.{Leaves, states_in}
use Rattle.claims.specs.OneCall.{Held}
use Rattle.claims.proofs.OneCall.{Intact}
use Rattle.claims.specs.TaskCalls.{held_by, states_held, images_held, TaskMade, TogetherMet, turns_lent}
use Rattle.claims.proofs.HeldLists.{AllIntact, AllFitting, held_with, task_held, states_length, with_length, with_states, with_intact}
use Rattle.claims.proofs.HeldImages.{Lengths, lengths, bytes_same, images_with'}
use Rattle.claims.proofs.Ranges.{Stays, Ranged, call_ranged}
use Rattle.claims.proofs.WholeTurns.{AsTurns}
use Rattle.claims.proofs.SameDesks.{SameTasked, tasks_same}

-- ---- one call

module _ (hs : List Held) (w : Windows) (e : ℕ) (ns : List ℕ) (q grant : ℕ) (c : TaskMade) (met : TogetherMet hs w e ns q grant c) where
  abbrev taken : List State
  taken = states_in (tasks_in ns) met.before

  abbrev desk : Desk (List State) Windows
  desk = call_of w (states_held hs) ns q grant

  pub pass_lengths : TasksPass w taken ns q grant → Lengths (tasks_in ns) e met.before hs
  unfolding all_admissible
  pass_lengths p =
      let r : CallRuled ns q = call_ruled (shapes_of w).b.size ns q p.tasks_ruled' in
      lengths (tasks_in ns) e met.before hs r.tasks_some r.tasks_few met.long met.each met.lent
      (eqb-true _ _ (and_left (eqb (length taken) (tasks_in ns)) _ p.admitted))

  -- a call that is not refused whole works on the states that are held
  pub done_lengths : c.reply ≡ 0 → Lengths (tasks_in ns) e met.before hs
  done_lengths d =
      tasks_by w taken ns q grant (λ t. t.reply ≡ 0 → Lengths (tasks_in ns) e met.before hs) (λ r n z. absurd (n z)) (λ p z. pass_lengths p) (sym met.contract.reply_is ∙ d)

  module _ (h : AllIntact hs) (b : Bytes w) where
    abbrev Made : Type 0
    Made = AsTurns hs w (cond (eqb c.reply 0) (tried_turns ns desk.given) []) c.held c.window

    abbrev Left : Tasked → Type 0
    Left t = Leaves t (tasks_in ns) met.before c.reply met.after c.window c.counts c.refusals

    refused : (r : ℕ) → r ≢ 0 → Left (whole_refused r w taken) → Made
    unfolding runs
    refused r z l =
        let f : eqb r 0 ≡ false = ne_eqb r 0 z in
        let a : met.after ≡ met.before = l.images_are ∙ ap (λ (t : Bool). cond t (images_with (each_length (tasks_in ns) met.before) met.before 0 taken) met.before) f in
        let same : c.held ≡ hs = met.left ∙ ap (λ (x : List ℕ). images_held e x 0 (length hs)) a ∙ sym met.lent in
        rw (l.reply_is, f) (record {
          states_are = ap states_held same;
          window_is = l.windows_are;
          whole = subst AllIntact (sym same) h;
          bytes = subst Bytes (sym l.windows_are) b;
          count = ap length same;
        })

    ranged : length (states_held hs) ≡ tasks_in ns → Ranged (states_held hs) desk.states desk.memory
    ranged n = call_ranged w (states_held hs) ns q grant n (record { count = refl; each = λ k l. first k l; bytes = b })
      where
        first : (k : ℕ) → k < length (states_held hs) → Stays (task_of (states_held hs) k) (task_of (states_held hs) k) w
        first k l =
            let i : Intact (held_by hs k) = h k (omega (arith, states_length hs)) in
            rw (task_held hs k) (record { range = record { sized = i.sized; words = i.words; bytes = b }; mask_same = refl })

    passed : TasksPass w taken ns q grant → Left (worked (call_of w taken ns q grant)) → Made
    passed p l =
        let n : Lengths (tasks_in ns) e met.before hs = pass_lengths p in
        let o : call_of w taken ns q grant ≡ desk = ap (λ (ss : List State). call_of w ss ns q grant) n.states_are in
        let s : length (states_held hs) ≡ tasks_in ns = states_length hs ∙ sym n.count in
        let r : Ranged (states_held hs) desk.states desk.memory = ranged s in
        let m : length desk.states ≡ length hs = r.count ∙ states_length hs in
        let fits : AllFitting hs desk.states
        = λ k x. let g : Stays (task_of (states_held hs) k) (task_of desk.states k) desk.memory = r.each k (omega arith) in
        record { sized = g.range.sized; words = g.range.words; mask_same = g.mask_same ∙ ap (λ (t : State). t.mask) (task_held hs k) } in
        let a : met.after ≡ images_with e met.before 0 desk.states
        = l.images_are ∙ (λ i. images_with (n.each_is i) met.before 0 (o i).states) in
        let x : images_held e (images_with e met.before 0 desk.states) 0 (length desk.states) ≡ held_with (images_held e met.before 0 (length desk.states)) desk.states
        = images_with' e met.each desk.states met.before 0 (rw m (let y : (0 + length hs) * e ≡ length hs * e = omega arith in omega (arith, met.long)))
        (λ j y. (fits j (omega arith)).sized) in
        let same : c.held ≡ held_with hs desk.states
        = met.left ∙ ap (λ (y : List ℕ). images_held e y 0 (length hs)) a ∙ (rw m at x) ∙ ap (λ (gs : List Held). held_with gs desk.states) (sym met.lent) in
        let t : CallListed w (states_held hs) ns desk = call_listed w (states_held hs) ns q grant in
        let v : c.window ≡ desk.memory = l.windows_are ∙ ap (λ (d : Desk (List State) Windows). d.memory) o in
        rw l.reply_is (record {
          states_are = ap states_held same ∙ with_states hs desk.states m h fits ∙ sym t.states_are;
          window_is = v ∙ sym t.memory_is;
          whole = subst AllIntact (sym same) (with_intact hs desk.states m h fits);
          bytes = subst Bytes (sym v) r.bytes;
          count = ap length same ∙ with_length hs desk.states;
        })

    pub together_made : AsTurns hs w (turns_lent hs w ns q grant c.reply) c.held c.window
    unfolding turns_lent
    together_made = tasks_by w taken ns q grant (λ t. Left t → Made) refused passed met.contract

-- ---- side by side

pub record SameTogether (F : ℕ → Type 0) (hs : List Held) (w u : Windows) (e : ℕ) (ns : List ℕ) (q grant : ℕ) (c d : TaskMade) : Type 0 where
  pub reply_same : c.reply ≡ d.reply
  pub counts_same : c.counts ≡ d.counts
  pub refusals_same : c.refusals ≡ d.refusals
  pub held_same : c.held ≡ d.held
  pub agree : Agree both F c.window d.window
  pub turns_same : turns_lent hs w ns q grant c.reply ≡ turns_lent hs u ns q grant d.reply

pub together_same : (F : ℕ → Type 0) (hs : List Held) (w u : Windows) (e : ℕ) (ns : List ℕ) (q grant : ℕ) (c d : TaskMade) → Agree both F w u
    → All (Off F) (run_needs_by both studies turn_needs (states_held hs) w (turns_lent hs w ns q grant c.reply))
    → TogetherMet hs w e ns q grant c → TogetherMet hs u e ns q grant d → SameTogether F hs w u e ns q grant c d
unfolding turns_lent
together_same F hs w u e ns q grant c d a off mc md =
    let n : ℕ = tasks_in ns in
    let l : List ℕ = mc.before in
    let ss : List State = states_in n l in
    let lent : md.before ≡ l = bytes_same e md.before l (length hs) md.long mc.long (sym md.lent ∙ mc.lent) in
    let x : Leaves (tasks_of w ss ns q grant) n l c.reply mc.after c.window c.counts c.refusals = mc.contract in
    let y : Leaves (tasks_of u ss ns q grant) n l d.reply md.after d.window d.counts d.refusals
    = subst (λ (k : List ℕ). Leaves (tasks_of u (states_in n k) ns q grant) n k d.reply md.after d.window d.counts d.refusals) lent md.contract in
    let held : c.reply ≡ 0 → ss ≡ states_held hs = λ z. (done_lengths hs w e ns q grant c mc z).states_are in
    let clear : (tasks_of w ss ns q grant).reply ≡ 0 → All (Off F) (run_touches both studies ss w (tried_turns ns (call_of w ss ns q grant).given))
    = λ z. let r : c.reply ≡ 0 = x.reply_is ∙ z in
    subst (λ (ts : List State). All (Off F) (run_touches both studies ts w (tried_turns ns (call_of w ts ns q grant).given))) (sym (held r))
    (turns_off (Off F) (tried_turns ns (call_of w (states_held hs) ns q grant).given) (states_held hs) w
    (subst (λ (t : Bool). All (Off F) (run_needs_by both studies turn_needs (states_held hs) w (cond t (tried_turns ns (call_of w (states_held hs) ns q grant).given) [])))
    (eq-eqb c.reply 0 r) off)) in
    let t : SameTasked F w ss ns q u grant (tasks_of w ss ns q grant) (tasks_of u ss ns q grant) = tasks_same F w ss ns q u grant a clear in
    let r : c.reply ≡ d.reply = x.reply_is ∙ t.reply_same ∙ sym y.reply_is in
    let left : mc.after ≡ md.after
    = x.images_are ∙ (λ i. cond (eqb (t.reply_same i) 0) (images_with (each_length n l) l 0 (t.states_same i)) l) ∙ sym y.images_are in
    record {
      reply_same = r;
      counts_same = x.counts_are ∙ t.counts_same ∙ sym y.counts_are;
      refusals_same = x.refusals_are ∙ t.refusals_same ∙ sym y.refusals_are;
      held_same = mc.left ∙ ap (λ (k : List ℕ). images_held e k 0 (length hs)) left ∙ sym md.left;
      agree = subst (λ (m : Windows). Agree both F m d.window) (sym x.windows_are) (subst (Agree both F (tasks_of w ss ns q grant).memory) (sym y.windows_are) t.agree);
      turns_same = by_test {A = List Turn} {B = List Turn} (λ a b. a ≡ b) (eqb c.reply 0) (eqb d.reply 0) (λ i. eqb (r i) 0)
          (λ z. let h : c.reply ≡ 0 = eqb-true _ _ z in
          ap (tried_turns ns) (subst (λ (ts : List State). (call_of w ts ns q grant).given ≡ (call_of u ts ns q grant).given) (held h) (t.given_same (sym x.reply_is ∙ h)))) (λ z. refl);
    }
