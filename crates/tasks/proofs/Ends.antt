-- What a call leaves: refused whole, or the images with the states of the call in them.
use Rattle.model.proofs.Prelude.{suc, zero, ℕ, ◌*◌, ◌+◌, ◌-◌, ◌<◌, ◌≤◌, cond, true, List, inl, inr, ◌⊎◌, ap, refl, subst, sym, ◌∙◌, ◌≡◌, arith, eqb, get_or}
use Rattle.model.proofs.Prelude.{length, get_or_eq_default, replicate, ext_get_or, eq-eqb, ne_eqb, tab, Bytes, shapes_of, Windows, part, written, grant_most}
use Rattle.model.proofs.Prelude.{get_d_part, lt_or_le, length_written, written_below, length_part, written_inside}
use Rattle.tasks.proofs.Prelude.{State, call_of, call_refusal, Tasked, tasks_in, tasks_most, tasks_of, turn_run, whole_refused, worked, call_by, count_by, Desk}
use Rattle.tasks.proofs.Prelude.{Given, opened, refusal_by, rounds, SameDesk, image_as, state_of, as_same, keeps_length, round_trips}
use Rattle.task_model.proofs.CallOrder.{TasksPass, tasks_pass}
use Rattle.tasks.specs.Images.{images_fit, each_length, image_in, states_from, states_in, images_with, TasksRan}
use Rattle.tasks.specs.Desks.{tasks_turn, At, Shown, Ready}
use Rattle.tasks.proofs.Judged.{Ruled, ruled_so_law}
use Rattle.tasks.proofs.ImageParts.{ends_before, image_in_law, fit_long, fit_from, states_fit, admitted_at}
use Rattle.tasks.proofs.Bridge.{Whole, Bridged, bridge}

-- ---- the images with their states in them

-- m images of t, from image k on, written into l that has those before them already
module _ (e n : ℕ) (t : List ℕ) (fits : length t ≡ n * e) (wholes : (k : ℕ) → k < n → Whole (image_in e t k)) where
  images_from : (m k : ℕ) (l : List ℕ) → k + m ≡ n → length l ≡ n * e → ((i : ℕ) → i < k * e → get_or l i 0 ≡ get_or t i 0) → images_with e l k (states_from e t k m) ≡ t
  unfolding images_with states_from
  images_from zero k l z h same =
      let q : k ≡ n = omega arith in
      ext_get_or 0 l t (h ∙ sym fits) (λ i b. same i (subst (λ (j : ℕ). i < j * e) (sym q) (omega arith)))
  images_from (suc m) k l z h same =
      ap (λ (v : List ℕ). images_with e (written l (k * e) v) (suc k) (states_from e t (suc k) m)) image
      ∙ images_from m (suc k) (written l (k * e) (image_in e t k)) (omega arith) (length_written l (k * e) (image_in e t k) ∙ h) more
    where
      image : image_as (image_in e l k) (state_of (image_in e t k)) ≡ image_in e t k
      image = as_same (image_in e l k) (image_in e t k) (state_of (image_in e t k)) (length_part t (k * e) e ∙ sym (length_part l (k * e) e)) ∙ (wholes k (omega arith)).back

      more : (i : ℕ) → i < suc k * e → get_or (written l (k * e) (image_in e t k)) i 0 ≡ get_or t i 0
      more i b = at (lt_or_le i (k * e))
        where
          at : (i < k * e) ⊎ (k * e ≤ i) → get_or (written l (k * e) (image_in e t k)) i 0 ≡ get_or t i 0
          at (inl c) = written_below l (k * e) (image_in e t k) i c ∙ same i c
          at (inr c) =
              let s : suc k * e ≡ k * e + e = omega arith in
              let q : i ≡ k * e + (i - k * e) = omega arith in
              let j : i - k * e < e = omega arith in
              let r : k * e + e ≤ n * e = ends_before k n e (omega arith) in
              ap (λ (x : ℕ). get_or (written l (k * e) (image_in e t k)) x 0) q
              ∙ written_inside l (k * e) (image_in e t k) (i - k * e) (omega (arith, length_part t (k * e) e)) (omega (arith, length_part t (k * e) e))
              ∙ get_d_part t (k * e) e (i - k * e) j
              ∙ ap (λ (x : ℕ). get_or t x 0) (sym q)

  pub images_with' : (l : List ℕ) → length l ≡ n * e → t ≡ images_with e l 0 (states_from e t 0 n)
  images_with' l h = sym (images_from n 0 l (omega arith) h (λ i b. absurd (omega arith)))

-- ---- a call

pub bytes_read : (w v : Windows) → Bytes w → w ≡ v → Bytes v
bytes_read w v h f = subst Bytes f h

-- windows that were only read are judged as they are lent
pub refusal_read : (w v : Windows) (ss : List State) (ns : List ℕ) (q grant n : ℕ) → n ≡ call_refusal (shapes_of w) ss ns q grant → w ≡ v → n ≡ call_refusal (shapes_of v) ss ns q grant
refusal_read w v ss ns q grant n e f = e ∙ ap (λ (u : Windows). call_refusal (shapes_of u) ss ns q grant) f

-- eight counts, or refusals, of 0
abbrev pub zeros : List ℕ
zeros = replicate tasks_most 0

zeros_at : (n k : ℕ) → ◌≡◌ {A = ℕ} (get_or (replicate n 0) k 0) 0
zeros_at zero k = refl
zeros_at (suc n) zero = refl
zeros_at (suc n) (suc k) = zeros_at n k

-- a part of bytes is bytes
part_bytes_law : (l : List ℕ) (o n : ℕ) → ((i : ℕ) → get_or l i 0 < 256) → (i : ℕ) → get_or (part l o n) i 0 < 256
part_bytes_law l o n b i = at (lt_or_le i n)
  where
    at : (i < n) ⊎ (n ≤ i) → get_or (part l o n) i 0 < 256
    at (inl c) = rw (get_d_part l o n i c) (b (o + i))
    at (inr c) = rw (get_or_eq_default (part l o n) 0 {n = i} (omega (arith, length_part l o n))) (omega arith)

module _ (l : List ℕ) (w : Windows) (ns : List ℕ) (q grant : ℕ) where
  abbrev tasks : ℕ
  tasks = tasks_in ns

  abbrev each : ℕ
  each = each_length tasks l

  abbrev states : List State
  states = states_in tasks l

  abbrev number : ℕ
  number = call_refusal (shapes_of w) states ns q grant

  pub leaves_refused : (r : ℕ) → r ≡ number → (r ≡ 0 → ⊥) → TasksRan l w ns q grant r l w zeros zeros
  leaves_refused r e d = record {
    reply_is = ap (λ (o : Tasked). o.reply) (sym is);
    counts_are = ap (λ (o : Tasked). o.counts) (sym is);
    refusals_are = ap (λ (o : Tasked). o.refusals) (sym is);
    images_are = sym (rw (is, ne_eqb r 0 d));
    windows_are = ap (λ (o : Tasked). o.memory) (sym is);
  }
    where
      is : tasks_of w states ns q grant ≡ whole_refused r w states
      is = unfold tasks_of in (rw (← e, ne_eqb r 0 d))

  -- where nothing refuses it whole
  module _ (open_is : number ≡ 0) where
    pass : TasksPass w states ns q grant
    pass = tasks_pass w states ns q grant open_is

    ruled : Ruled (shapes_of w).b.size ns q
    ruled = ruled_so_law (shapes_of w).b.size ns q pass.tasks_ruled'

    fit : images_fit tasks l ≡ true
    fit = fit_from tasks l ruled.tasks_some pass.admitted

    pub ready_first : Ready ns l grant zeros × (grant ≤ grant_most)
    ready_first =
        let b : grant ≤ grant_most = pass.granted in
        (record { few = ruled.tasks_few; fit = fit; small = λ k. rw (zeros_at tasks_most k) (omega arith) }, b)

    pub opened_at : At (opened (tasks_turn ns l) tasks q grant l w) grant l w zeros zeros
    unfolding tab count_by refusal_by
    opened_at = record { left_is = refl; images_are = refl; windows_are = refl; counts_are = refl; refusals_are = refl }

    module _ (image_bytes : (i : ℕ) → get_or l i 0 < 256) (window_bytes : Bytes w) where
      first : Bridged each tasks (shapes_of w) l states w
      first = record {
        long = fit_long tasks l fit;
        states_are = states_fit tasks l fit;
        wholes = λ k b. record {
          admitted = admitted_at tasks l fit pass.admitted k b;
          words = round_trips.state_words (image_in each l k) (part_bytes_law l (k * each) each image_bytes);
          back = keeps_length.as_state (image_in each l k) (image_in_law tasks l l k) (part_bytes_law l (k * each) each image_bytes);
        };
        shapes_are = refl;
        bytes = window_bytes;
      }

      same : SameDesk (Bridged each tasks (shapes_of w)) (call_by (tasks_turn ns l) tasks q grant l w) (call_by (turn_run ns) tasks q grant states w)
      same = bridge each tasks (shapes_of w) (image_in_law tasks l) ns q pass.windows_ruled ruled.turn_most' ruled.part_ruled_law grant l states w first

      pub leaves_done : (m : List ℕ) (v : Windows) (cs rs : List ℕ)
          → Shown (rounds (tasks_turn ns l) tasks q (grant + tasks) (opened (tasks_turn ns l) tasks q grant l w)) m v cs rs → TasksRan l w ns q grant 0 m v cs rs
      leaves_done m v cs rs = λ shown. record {
        reply_is = ap (λ (o : Tasked). o.reply) (sym is);
        counts_are = shown.counts_are ∙ ap (λ (gs : List Given). tab 0 tasks_most (λ k. count_by k gs)) same'.given_same ∙ ap (λ (o : Tasked). o.counts) (sym is);
        refusals_are = shown.refusals_are ∙ ap (λ (gs : List Given). tab 0 tasks_most (λ k. refusal_by k gs)) same'.given_same ∙ ap (λ (o : Tasked). o.refusals) (sym is);
        images_are = shown.images_are ∙ images ∙ ap (λ (o : Tasked). cond (eqb o.reply 0) (images_with each l 0 o.states) l) (sym is);
        windows_are = shown.windows_are ∙ same'.memory_same ∙ ap (λ (o : Tasked). o.memory) (sym is);
      }
        where
          last : Desk (List ℕ) Windows
          last = rounds (tasks_turn ns l) tasks q (grant + tasks) (opened (tasks_turn ns l) tasks q grant l w)

          same' : SameDesk (Bridged each tasks (shapes_of w)) last (call_of w states ns q grant)
          same' = unfold call_of call_by in same

          is : tasks_of w states ns q grant ≡ worked (call_of w states ns q grant)
          is = unfold tasks_of in (rw (eq-eqb number 0 open_is))

          images : last.states ≡ images_with each l 0 (call_of w states ns q grant).states
          images =
              images_with' each tasks last.states same'.states.long same'.states.wholes l (fit_long tasks l fit)
              ∙ ap (images_with each l 0) (sym same'.states.states_are)
