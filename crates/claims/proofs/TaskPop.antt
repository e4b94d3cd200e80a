-- A call of one item by one task as a turn on the whole of B; the tasks' demand, said of the state that is held; the POP on what is held.
use Rattle.model.proofs.Prelude.{ℕ, ◌+◌, ◌<◌, List, [], ◌∷◌, ◌≢◌, ap, refl, subst, sym, ◌∙◌, ◌≡◌, arith, length, set, get_or-set_same, Alike, Call, GivesBack}
use Rattle.model.proofs.Prelude.{opcode_of, Within, hole, Bytes, Fits, Ran, run_needs_by, runs, step_on, both, shape_of, Shapes, shapes_of, Windows, op_pop, All}
use Rattle.model.proofs.Prelude.{map_outcome, Off, Outcome, fresh, reg, r_o, Sized, sp, Words, Item, mmix, refusing, step, by_fetch, by_step, done_by, item_by}
use Rattle.model.proofs.Prelude.{LentBy, MetBy, Way, done_is}
use Rattle.claims.proofs.Prelude.{State, GivesBackTo, pop_in, PopMetIn, PrivateTo, turn_on, Own, refusing_in, studies, task_of, Turn, turn, turn_needs}
use Rattle.claims.proofs.Prelude.{whole_judge, demand3_tasks, turn_whole}
use Rattle.claims.specs.OneCall.{Held, held_state, Entry, asked_by, Made}
use Rattle.claims.specs.Calls.{AllFit, Returns}
use Rattle.claims.proofs.Calls.{ItemMade, item_made, returns}
use Rattle.claims.specs.TaskCalls.{held_by, states_held, TaskMade, AloneMet, whole_of, turns_of}
use Rattle.claims.proofs.HeldLists.{AllIntact, task_held, states_length}
use Rattle.claims.proofs.WholeTurns.{AsTurns}
use Rattle.claims.proofs.Alone.{alone_made}

-- ---- an item of task c with all of B

pub turned_item : (w v : Windows) (ss : List State) (c : ℕ) (i : Item) → shapes_of v ≡ shapes_of w
    → turn_on (whole_of w) v ss c i ≡ map_outcome (λ t. set ss c t) (step_on both mmix (task_of ss c) v i)
unfolding shapes_of shape_of
turned_item w v ss c i e = turn_whole (shapes_of w) c ss v i e

turned : (w v : Windows) (hs : List Held) (c op : ℕ) (u : Way) → shapes_of v ≡ shapes_of w
    → turn_on (whole_of w) v (states_held hs) c (item_by u op) ≡ map_outcome (λ t. set (states_held hs) c t) (done_by u op v (held_state (held_by hs c)))
turned w v hs c op u e =
    turned_item w v (states_held hs) c (item_by u op) e
    ∙ ap (λ (s : State). map_outcome (λ t. set (states_held hs) c t) (step_on both mmix s v (item_by u op))) (task_held hs c)
    ∙ ap (map_outcome (λ t. set (states_held hs) c t)) (done_is u op v (held_state (held_by hs c)))

-- what is lent to the host is lent to a task with all of B
pub lent_whole : (u : Way) (w v : Windows) (s : State) → shapes_of v ≡ shapes_of w → LentBy u (refusing (shapes_of v)) s → LentBy u (refusing_in (whole_of w) (shapes_of v)) s
lent_whole (by_step x y z) w v s e l = tt
lent_whole by_fetch w v s e l =
    subst (λ (q : Shapes). refusing q s.pc ≡ 0 → refusing_in (whole_of w) q s.pc ≡ 0) (sym e)
    (λ h. unfold shapes_of shape_of in (whole_judge (shapes_of w) s.pc ∙ h)) l

-- what a call of one item by task c leaves, as a turn
pub record CallMade (hs : List Held) (w : Windows) (c : ℕ) (i : Item) (a : TaskMade) : Type 0 where
  pub reply_is : a.reply ≡ (turn_on (whole_of w) w (states_held hs) c i).reply
  pub states_are : states_held a.held ≡ (turn_on (whole_of w) w (states_held hs) c i).state
  pub window_is : a.window ≡ (turn_on (whole_of w) w (states_held hs) c i).memory
  pub whole : AllIntact a.held
  pub bytes : Bytes a.window
  pub count : length a.held ≡ length hs
  pub its : ItemMade (held_by hs c) w i a.reply (held_by a.held c) a.window

pub item_called : (hs : List Held) (w : Windows) (c : ℕ) (i : Item) (e : Entry) (a : TaskMade) → AllIntact hs → Bytes w → Fits i
    → asked_by e a.reply a.count ≡ i ∷ [] → AloneMet hs w c e a → CallMade hs w c i a
unfolding turns_of runs AllFit map_outcome
item_called hs w c i e a h b f asks met =
    let t : AsTurns hs w (turn c (whole_of w) i ∷ []) a.held a.window
    = subst (λ (is : List Item). AsTurns hs w (turns_of c (whole_of w) is) a.held a.window) asks (alone_made hs w c e a h b (subst AllFit (sym asks) (f, tt)) met) in
    let m : Made = record { entry = e; reply = a.reply; count = a.count; held = held_by a.held c; window = a.window } in
    let s : ItemMade (held_by hs c) w i a.reply (held_by a.held c) a.window = item_made (held_by hs c) w m i (h c met.there) b asks f met.contract in
    record {
      reply_is = s.reply_is ∙ sym (ap (λ (o : Outcome (List State) Windows). o.reply) (turned_item w w (states_held hs) c i refl)
          ∙ ap (λ (q : State). (step_on both mmix q w i).reply) (task_held hs c));
      states_are = t.states_are;
      window_is = t.window_is;
      whole = t.whole;
      bytes = t.bytes;
      count = t.count;
      its = s;
    }

-- ---- the demand, of states s and t that tasks c have

module _ (p : Own) (w : Windows) (ss ts : List State) (c : ℕ) (f : Call) (x y z : ℕ) (is : List Turn) where
  abbrev ClaimAt : State → State → Type 0
  ClaimAt s t = c < length ss → Sized s → Sized t → Words s → Words t → length ss ≡ length ts → Alike (hole s x) s t → ((k : ℕ) → k ≢ c → task_of ss k ≡ task_of ts k)
      → (turn_on p w ss c (step (opcode_of f) x y z)).reply ≡ 0
      → (task_of (turn_on p w ss c (step (opcode_of f) x y z)).state c).pc ≡ (task_of (turn_on p w ts c (step (opcode_of f) x y z)).state c).pc
      → All (Off (Within (sp s r_o) (hole s x + 1))) (run_needs_by both studies turn_needs
      (turn_on p w ss c (step (opcode_of f) x y z)).state (turn_on p w ss c (step (opcode_of f) x y z)).memory is)
      → PrivateTo p c (hole s x) s t (turn_on p w ss c (step (opcode_of f) x y z)) (turn_on p w ts c (step (opcode_of f) x y z)) is

  pub claim_at : (s t : State) → task_of ss c ≡ s → task_of ts c ≡ t → ClaimAt s t
  claim_at s t es et =
      subst (λ (q : State). ClaimAt q t) es (subst (ClaimAt (task_of ss c)) et
      (λ there ns nt ws wt n alike others done pcs off.
      demand3_tasks p w ss ts c f x y z is tt there ns nt ws wt (record { count_same = n; caller = alike; others = others }) done pcs off))

-- ---- the POP

gives_back : (w v : Windows) (hs : List Held) (c h : ℕ) (s : State) (u : Way) → shapes_of v ≡ shapes_of w → c < length hs
    → GivesBackTo c h s (turn_on (whole_of w) v (states_held hs) c (item_by u op_pop)) → GivesBack h s (done_by u op_pop v (held_state (held_by hs c)))
unfolding map_outcome
gives_back w v hs c h s u e l g =
    let o : Outcome State Windows = done_by u op_pop v (held_state (held_by hs c)) in
    let b : GivesBackTo c h s (map_outcome (λ t. set (states_held hs) c t) o) = subst (GivesBackTo c h s) (turned w v hs c op_pop u e) g in
    record {
      done = b.done;
      locals = λ i m. sym (ap (λ (t : State). reg t i) (get_or-set_same (states_held hs) c o.state fresh (omega (arith, states_length hs)))) ∙ b.locals i m;
    }

-- by any function, on what task c holds, where the turns led to r
pub returns_held : (w v : Windows) (hs : List Held) (c h : ℕ) (s : State) (r : Ran (List State) Windows) → shapes_of v ≡ shapes_of w → c < length hs → AllIntact hs → Bytes v
    → states_held hs ≡ r.state → v ≡ r.memory → ((u : Way) → PopMetIn (whole_of w) r c u → GivesBackTo c h s (pop_in (whole_of w) r c u))
    → Returns h s (held_by hs c) v
returns_held w v hs c h s r e l i b es ev back =
    returns h s (held_by hs c) v (record { answers = []; state = held_state (held_by hs c); memory = v }) (i c l) b refl refl
    (λ u m. gives_back w v hs c h s u e l
    (subst (λ (q : Ran (List State) Windows). PopMetIn (whole_of w) q c u → GivesBackTo c h s (pop_in (whole_of w) q c u))
    (λ j. record { answers = r.answers; state = sym es j; memory = sym ev j }) (back u) (met u m)))
  where
    met : (u : Way) → MetBy op_pop (refusing (shapes_of v)) v (held_state (held_by hs c)) u
        → PopMetIn (whole_of w) (record { answers = r.answers; state = states_held hs; memory = v }) c u
    met u m = subst (λ (q : State). MetBy op_pop (refusing_in (whole_of w) (shapes_of v)) v q u) (sym (task_held hs c))
        (record { names = m.names; lent = lent_whole u w v (held_state (held_by hs c)) e m.lent })
