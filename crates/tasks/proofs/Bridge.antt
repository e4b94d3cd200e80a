-- From the images' bytes to the tasks' states: a turn on the images is the turn on the states, and so is a call.
use Rattle.model.proofs.Prelude.{ℕ, ◌*◌, ◌+◌, ◌<◌, ◌≤◌, true, List, inl, inr, ◌⊎◌, ap, refl, subst, sym, ◌∙◌, ◌≡◌, dec_lt, ℕ_discrete, arith, length, length-set}
use Rattle.model.proofs.Prelude.{set, ext_get_or, get_or-set_other, get_or-set_same, Bytes, both, Shapes, shapes_of, Windows, part, written, admissible, fresh, Words}
use Rattle.model.proofs.Prelude.{run_for, Stopped, fetched, unruled_by, length_written, part_written, map_stopped, length_part, part_apart}
use Rattle.tasks.proofs.Prelude.{State, part_at, part_ruled, turn_most, turn_run, call_by, mmix_in, task_of, call_same, SameDesk, SameStop, run_in, image_as}
use Rattle.tasks.proofs.Prelude.{is_image, state_of, stored_in, as_same, keeps_length, round_trips}
use Rattle.task_model.proofs.Turns.{turn_run_law}
use Rattle.tasks.specs.Images.{image_in, states_from}
use Rattle.tasks.specs.Desks.{image_turn, images_turn}
use Rattle.tasks.proofs.ImageParts.{ends_before, length_states, state_at_law}
use Rattle.tasks.proofs.Alone.{Held, run_held, run_in_open}

-- ---- an image that is written

-- images of e bytes each, image k of which becomes v
module _ (e : ℕ) (l : List ℕ) (n k : ℕ) (v : List ℕ) (fits : length l ≡ n * e) (few : k < n) (long : length v ≡ e) where
  within : k * e + length v ≤ length l
  within = omega (arith, ends_before k n e few)

  pub image_own : image_in e (written l (k * e) v) k ≡ v
  image_own = ap (part (written l (k * e) v) (k * e)) (sym long) ∙ part_written l (k * e) v within

  pub image_other : (j : ℕ) → (j ≡ k → ⊥) → image_in e (written l (k * e) v) j ≡ image_in e l j
  image_other j d = part_apart l (k * e) v (j * e) e (apart (dec_lt j k))
    where
      apart : Dec (j < k) → (j * e + e ≤ k * e) ⊎ (k * e + length v ≤ j * e)
      apart (yes h) = inl (ends_before j k e h)
      apart (no h) = inr (let r : k * e + e ≤ j * e = ends_before k j e (omega (arith, h, d)) in omega arith)

  pub states_set : states_from e (written l (k * e) v) 0 n ≡ set (states_from e l 0 n) k (state_of v)
  states_set =
      ext_get_or fresh (states_from e (written l (k * e) v) 0 n) (set (states_from e l 0 n) k (state_of v))
      (length_states e (written l (k * e) v) 0 n ∙ sym (length-set (states_from e l 0 n) k (state_of v) ∙ length_states e l 0 n))
      (λ j m. let b : j < n = omega (arith, length_states e (written l (k * e) v) 0 n) in at j b (ℕ_discrete j k))
    where
      at : (j : ℕ) → j < n → Dec (j ≡ k) → task_of (states_from e (written l (k * e) v) 0 n) j ≡ task_of (set (states_from e l 0 n) k (state_of v)) j
      at j b (yes q) =
          state_at_law e (written l (k * e) v) n j b ∙ ap (λ (i : ℕ). state_of (image_in e (written l (k * e) v) i)) q ∙ ap state_of image_own
          ∙ sym (ap (λ (i : ℕ). task_of (set (states_from e l 0 n) k (state_of v)) i) q
          ∙ get_or-set_same (states_from e l 0 n) k (state_of v) fresh (omega (arith, length_states e l 0 n)))
      at j b (no q) =
          state_at_law e (written l (k * e) v) n j b ∙ ap state_of (image_other j q)
          ∙ sym (get_or-set_other (states_from e l 0 n) k j (state_of v) fresh q ∙ state_at_law e l n j b)

-- ---- an image that a state fills

-- its state is in range and admissible, and it has nothing else
pub record Whole (l : List ℕ) : Type 0 where
  pub admitted : admissible (state_of l) ≡ true
  pub words : Words (state_of l)
  pub back : image_as l (state_of l) ≡ l

-- the image after a run of its state
module _ (l : List ℕ) (is : is_image l ≡ true) (h : Shapes) (s : State) (w : Windows) (k : Held (state_of l).mask h s w) where
  pub stored_as : stored_in l s ≡ image_as l s
  stored_as = keeps_length.stored_again l s is k.mask_is

  pub length_as : length (image_as l s) ≡ length l
  length_as = keeps_length.as_length l s is k.sized

  pub state_as : state_of (image_as l s) ≡ s
  state_as = keeps_length.state_as l s k.sized k.words (keeps_length.room_again l s.mask is k.mask_is)

  pub whole_as : Whole (image_as l s)
  whole_as = record {
    admitted = rw state_as k.admitted;
    words = rw state_as k.words;
    back = ap (image_as (image_as l s)) state_as ∙ as_same (image_as l s) l s (sym length_as);
  }

-- ---- the relation, and that a turn keeps it

module _ (e n : ℕ) (h : Shapes) where
  pub record Bridged (l : List ℕ) (ss : List State) (w : Windows) : Type 0 where
    pub long : length l ≡ n * e
    pub states_are : ss ≡ states_from e l 0 n
    pub wholes : (k : ℕ) → k < n → Whole (image_in e l k)
    pub shapes_are : shapes_of w ≡ h
    pub bytes : Bytes w

  module _ (is : (l : List ℕ) (k : ℕ) → is_image (image_in e l k) ≡ true) where
    -- image k becomes that of s
    bridged : (l : List ℕ) (ss : List State) (w : Windows) (k : ℕ) (s : State) (v : Windows) → k < n → Bridged l ss w → Held (state_of (image_in e l k)).mask h s v
        → Bridged (written l (k * e) (image_as (image_in e l k) s)) (set ss k s) v
    bridged l ss w k s v b r t =
        let i : List ℕ = image_in e l k in
        let m : length (image_as i s) ≡ e = length_as i (is l k) h s v t ∙ length_part l (k * e) e in
        record {
          long = length_written l (k * e) (image_as i s) ∙ r.long;
          states_are = ap (λ (x : List State). set x k s) r.states_are
              ∙ sym (states_set e l n k (image_as i s) r.long b m ∙ ap (set (states_from e l 0 n) k) (state_as i (is l k) h s v t));
          wholes = λ j c. at j c m (ℕ_discrete j k);
          shapes_are = t.shapes_are;
          bytes = t.bytes;
        }
      where
        at : (j : ℕ) → j < n → length (image_as (image_in e l k) s) ≡ e → Dec (j ≡ k) → Whole (image_in e (written l (k * e) (image_as (image_in e l k) s)) j)
        at j c m (yes q) = rw (q, image_own e l n k (image_as (image_in e l k) s) r.long b m) (whole_as (image_in e l k) (is l k) h s v t)
        at j c m (no q) = rw (image_other e l n k (image_as (image_in e l k) s) r.long b m j q) (r.wholes j c)

    module _ (ns : List ℕ) (q : ℕ) (fine : unruled_by h ≡ 0) (most : q ≤ turn_most) (ruled : (k : ℕ) → k < n → part_ruled h.b.size (part_at ns k) ≡ true) where
      turn_same : (k g : ℕ) (l : List ℕ) (ss : List State) (w : Windows) → k < n → g ≤ q → Bridged l ss w → SameStop Bridged (images_turn e ns k g l w) (turn_run ns k g ss w)
      unfolding images_turn image_turn
      turn_same k g l ss w b c r = subst (SameStop Bridged (images_turn e ns k g l w)) (sym runs) (rw opened stop)
        where
          s : State
          s = state_of (image_in e l k)

          o : Stopped State Windows
          o = run_for both (mmix_in (part_at ns k)) fetched g s w

          found : task_of ss k ≡ s
          found = ap (λ (x : List State). task_of x k) r.states_are ∙ state_at_law e l n k b

          runs : turn_run ns k g ss w ≡ map_stopped (set ss k) o
          runs = turn_run_law ns k g ss w (omega (arith, ap length r.states_are, length_states e l 0 n))
              ∙ ap (λ (t : State). map_stopped (set ss k) (run_for both (mmix_in (part_at ns k)) fetched g t w)) found

          opened : run_in w s (part_at ns k) g ≡ o
          opened = run_in_open w s (part_at ns k) g (r.wholes k b).admitted (ap unruled_by r.shapes_are ∙ fine) (omega arith)
              (ap (λ (x : Shapes). part_ruled x.b.size (part_at ns k)) r.shapes_are ∙ ruled k b)

          ran : Held s.mask h o.state o.memory
          ran = run_held s.mask h (part_at ns k) g s w (record {
            sized = round_trips.state_sized (image_in e l k);
            words = (r.wholes k b).words;
            admitted = (r.wholes k b).admitted;
            mask_is = refl;
            shapes_are = r.shapes_are;
            bytes = r.bytes;
          })

          stop : SameStop Bridged (record {
            done = o.done;
            reply = o.reply;
            state = written l (k * e) (stored_in (image_in e l k) o.state);
            memory = o.memory;
          }) (map_stopped (set ss k) o)
          stop = record {
            done_same = refl;
            reply_same = refl;
            memory_same = refl;
            states = rw (stored_as (image_in e l k) (is l k) h o.state o.memory ran) (bridged l ss w k o.state o.memory b r ran);
          }

      pub bridge : (grant : ℕ) (l : List ℕ) (ss : List State) (w : Windows) → Bridged l ss w
          → SameDesk Bridged (call_by (images_turn e ns) n q grant l w) (call_by (turn_run ns) n q grant ss w)
      bridge grant l ss w r = call_same Bridged (images_turn e ns) (turn_run ns) n q turn_same grant l ss w r
