-- Instances with mmix_tasks: one task, which holds the image of model's `caller 7` and is lent all of B, an instruction a turn. The image is by laws, all else computed.
use Rattle.model.proofs.Prelude.{suc, zero, ℕ, ◌*◌, ◌<◌, cond, ◌||◌, List, [], ◌++◌, ◌∷◌, inl, ap, refl, subst, sym, ◌∙◌, ◌≡◌, arith, eqb, length, start}
use Rattle.model.proofs.Prelude.{target_of, indexed, over, tab, within, count_of, framed, hole, last_output, misplaced, no_frame, pop_frame, popped, pop_rule, pop_to}
use Rattle.model.proofs.Prelude.{pushed, pushed_rule, push_frame, restored, slid, slide, unslide, image_length, old_image_length, needs_of, run_needs_by, runs, step_on}
use Rattle.model.proofs.Prelude.{bytes_in, operand_in, unit_at, both, has, inside, octa_at, octa_bytes, offset, put_octa, ruled, ruled_one, shape_of, shapes_of, shares}
use Rattle.model.proofs.Prelude.{write_octa, tell, bytes_of, octa, part, value_of, written, arm_of, look, looks, map_plan, missing, named, perform, puts, ups, worst}
use Rattle.model.proofs.Prelude.{admissible, claim_local, cleared, fresh, goes, halted, hideable, hides, reg, set_register, spilled, stored, with_special, run_for}
use Rattle.model.proofs.Prelude.{claims, fetched_plan, from_three, guarded, instruction_plan, item_plan, keeps_claim, plan_of, refusal_of, refusing, settled_by}
use Rattle.model.proofs.Prelude.{step_plan, taken_back, tetra_at, tetra_plan, unruled_by, each, below, off_run, poppable, ranged, ranged_state, caller, part_all}
use Rattle.claims.proofs.Prelude.{needs, State, lent, CalledThere, hole_at, PopsThere, pushed_at, turns_cut, all_admissible, call_of, call_refusal, each_below}
use Rattle.claims.proofs.Prelude.{overlaps, part_clear, part_ruled, Tasked, tasks_of, tasks_ruled, turn_run, CalledIn, picked, renamed, any_runs, call_by}
use Rattle.claims.proofs.Prelude.{count_by, refusal_by, rounds, turn_of, turns_from, any_parts, foreign, owns, refusing_in, studies, Turn, turn_judge}
use Rattle.claims.proofs.Prelude.{turn_needs, turn_plan, without32, tried_turns, image_of, state_of, is_new', state_full, round_trips, each_length, images_fit}
use Rattle.claims.proofs.Prelude.{images_with, Leaves, states_from, states_in, TasksRan}
use Rattle.claims.specs.OneCall.{Held, image, held_state, HeldFits}
use Rattle.claims.proofs.Demand3Instance.{bytes}
use Rattle.claims.specs.TaskCalls.{held_by, states_held, images_held, together, TaskMade, LentMet, TaskMeetsBy, turns_lent, turns_by, FitsBy, TaskChain, task_last_held, AllFitIn, all_turns}
use Rattle.claims.specs.AnywhereCalls.{AllHeldFit, CameBackHeld}
use Rattle.claims.specs.OwnCalls.{PartLent, PartsLent}
use Rattle.claims.specs.AllLent.{numbers_from}
use Rattle.claims.proofs.Shown.{flat_byte}
use Rattle.claims.proofs.AnywhereCalls.{anywhere_calls}
use Rattle.claims.proofs.OwnCalls.{own_part_calls}
use Rattle.claims.proofs.AllLent.{all_lent}
use Rattle.claims.proofs.ListsInstance.{own, cut, called_any, called_in, pops, first_local}
use Rattle.claims.proofs.ListsInstance.{computed as by_run}

-- ---- the image

abbrev picture : List ℕ
picture = image_of (caller 7)

abbrev hs : List Held
hs = image picture ∷ []

is_state : state_of picture ≡ caller 7
is_state = round_trips.state_image (caller 7) (ranged _ by_run.1.0).0 (ranged _ by_run.1.0).1

long : length picture ≡ image_length
long = round_trips.image_length' (caller 7) (ranged _ by_run.1.0).0

fit : AllHeldFit hs
unfolding HeldFits
fit zero l = record { long = is_new' picture long; byte = λ i. unfold image_of in flat_byte _ i }
fit (suc k) l = absurd (omega arith)

one_held : hs ≡ images_held image_length picture 0 1
unfolding images_held
one_held = ap (λ (l : List ℕ). image l ∷ []) (sym (ap (part picture 0) (sym long) ∙ part_all picture))

states_are : states_in 1 picture ≡ caller 7 ∷ []
unfolding states_in images_fit each_length states_from
states_are =
    ap (λ (n : ℕ). cond (eqb n (1 * image_length) || eqb n (1 * old_image_length)) (states_from (cond (eqb n (1 * image_length)) image_length old_image_length) picture 0 1) []) long
    ∙ ap (λ (s : State). s ∷ []) (state_full picture ∙ is_state)

-- ---- the call: PUSHJ, SWYM and POP, a turn each

abbrev parts : List ℕ
parts = 0 ∷ 48 ∷ []

abbrev told : Tasked
told = tasks_of lent (caller 7 ∷ []) parts 1 3

abbrev after : List ℕ
after = cond (eqb told.reply 0) (images_with (each_length 1 picture) picture 0 told.states) picture

abbrev made : TaskMade
made = record {
  entry = together (0 ∷ []) image_length parts 1 3;
  reply = told.reply;
  count = 0;
  counts = told.counts;
  refusals = told.refusals;
  held = images_held image_length after 0 1;
  window = told.memory;
}

-- the turns that it tries from a state
abbrev tried_from : State → List Turn
tried_from s = renamed (0 ∷ []) (cond (eqb told.reply 0) (tried_turns parts (call_of lent (s ∷ []) parts 1 3).given) []) ++ []

computed : tried_from (caller 7) ≡ turns_cut (cut [])
unfolding over indexed within tab octa part written value_of bytes_of hideable hides admissible fresh goes halted with_special cleared claim_local stored set_register spilled shape_of ruled_one offset has octa_bytes write_octa shapes_of inside octa_at put_octa both ruled shares map_plan worst named look looks puts perform ups missing needs arm_of tell target_of hole framed slid slide pushed_rule pushed push_frame count_of last_output restored unslide popped pop_to pop_rule no_frame misplaced pop_frame bytes_in unit_at operand_in step_on needs_of runs run_needs_by refusal_of unruled_by refusing plan_of guarded from_three step_plan claims tetra_at keeps_claim settled_by taken_back instruction_plan tetra_plan fetched_plan item_plan run_for start owns foreign refusing_in turn_judge turn_plan studies without32 turn_needs each below ranged_state off_run poppable each_below part_ruled overlaps part_clear tasks_ruled all_admissible call_refusal count_by refusal_by any_runs turn_of turns_from rounds call_by turn_run call_of tasks_of tried_turns renamed
computed = refl

contract : TasksRan picture lent parts 1 3 told.reply after told.memory told.counts told.refusals
contract =
    subst (λ (ss : List State). Leaves (tasks_of lent ss parts 1 3) 1 picture told.reply after told.memory told.counts told.refusals) (sym states_are)
    (record { reply_is = refl; counts_are = refl; refusals_are = refl; images_are = refl; windows_are = refl })

all_lent_met : LentMet hs lent (0 ∷ []) image_length parts 1 3 made
unfolding numbers_from images_held
all_lent_met =
    all_lent hs lent image_length parts 1 3 made refl
    (record { before = picture; after = after; long = long; each = inl refl; lent = one_held; contract = contract; left = refl })

chain : TaskChain hs lent (made ∷ [])
unfolding TaskChain TaskMeetsBy
chain = (all_lent_met, tt)

turns_are : all_turns hs lent (made ∷ []) ≡ turns_cut (cut [])
unfolding all_turns turns_by turns_lent picked states_held held_state
turns_are = ap tried_from is_state ∙ computed

pops_too : PopsThere (cut []) (state_of picture ∷ []) lent
pops_too = subst (λ (s : State). PopsThere (cut []) (s ∷ []) lent) (sym is_state) (pops [] (caller 7) 7 by_run.1)

tasks_anywhere_calls_met : CameBackHeld (cut []) hs lent (made ∷ [])
unfolding AllFitIn FitsBy states_held held_state
tasks_anywhere_calls_met =
    anywhere_calls hs lent (made ∷ []) (cut []) fit bytes (tt, tt) chain turns_are (omega arith)
    (subst (λ (s : State). CalledThere (cut []) (s ∷ []) lent any_parts (λ c. turn_needs)) (sym is_state) (called_any [] (caller 7) 7 by_run.1)) pops_too

tasks_own_part_calls_met : CameBackHeld (cut []) hs lent (made ∷ [])
unfolding AllFitIn FitsBy states_held held_state PartsLent PartLent
tasks_own_part_calls_met =
    (own_part_calls own 0 hs lent (made ∷ []) (omega arith) fit bytes (tt, tt) chain (inl (record { place = 0; place_below = omega arith; names = refl; part_is = refl }), tt)
    ).comes_back (cut []) refl refl turns_are (subst (λ (s : State). CalledIn (cut []) (s ∷ []) lent) (sym is_state) (called_in [] (caller 7) 7 by_run.1)) pops_too

-- so $0 is 7 again in the image that the host holds
tasks_seven : reg (held_state (held_by (task_last_held hs (made ∷ [])) 0)) 0 ≡ 7
unfolding states_held held_state
tasks_seven =
    let left : State = held_state (held_by (task_last_held hs (made ∷ [])) 0) in
    first_local [] (caller 7) 7 by_run.1 left
    (subst (λ (s : State). (i : ℕ) → i < hole_at (cut []) (s ∷ []) lent → reg left i ≡ reg (pushed_at (cut []) (s ∷ []) lent) i) is_state (tasks_anywhere_calls_met.held_back refl))
