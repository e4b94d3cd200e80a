-- The entries once 1 to 5 and 22 have passed; the windows' judge; and windows equal octabyte by octabyte, which are equal byte by byte.
use Rattle.model.proofs.Logic.{ℕ, ◌%◌, ◌*◌, ◌+◌, ◌-◌, ◌/◌, ◌<◌, ◌^◌, ◌≤◌, false, true, List, [], inl, inr, ◌≢◌, ◌⊎◌, ap, refl, subst, sym, ◌∙◌, ◌≡◌}
use Rattle.model.proofs.Logic.{dec_lt, arith, eqb, get_or, length, get_or_eq_default, eqb-true, le-leb, ne_eqb}
use Rattle.model.specs.Octa.{octa}
use Rattle.model.specs.Memory.{Window, Shape, shape_of, offset, has, octa_bytes, Windows, Shapes, shapes_of, inside, octa_at, both, ruled, shares}
use Rattle.model.specs.Plan.{Plan, answer, Outcome, perform, worst, clear, puts, Off, Agree}
use Rattle.model.specs.Registers.{admissible}
use Rattle.model.specs.Opcodes.{arm_of}
use Rattle.model.specs.Step.{refusal_of, unruled_by, refusing, plan_of, guarded, from_three, step_plan, step_of, Item, mmix}
use Rattle.model.specs.Demand.{SameBytes, SameOutside}
use Rattle.model.specs.declared.State.{State}
use Rattle.model.proofs.Bools.{on}
use Rattle.model.proofs.Fill.{lt_or_le}
use Rattle.model.proofs.Bytes.{get_d_part}
use Rattle.model.proofs.Plan.{Sound}
use Rattle.model.proofs.Apart.{Ruled, ruled_a, ruled_b, apart}

-- ---- judging

-- a plan performed on a window, and that all n octabytes from a lie inside it
abbrev pub perform_on : {S : Type 0} → Windows → S → Plan S → Outcome S Windows
perform_on w s p = perform both (refusing (shapes_of w)) s p w

abbrev pub Inside : Windows → ℕ → ℕ → Type 0
Inside w a n = worst (refusing (shapes_of w)) a n ≡ 0

-- an answer that stores nothing, by any judge
pub said_by_law : {S : Type 0} (j : ℕ → ℕ) (w : Windows) (s t : S) (r : ℕ) → perform both j s (answer r t 0 []) w ≡ record { reply = r; state = t; memory = w }
unfolding perform worst puts
said_by_law j w s t r = refl

pub said : {S : Type 0} (w : Windows) (s t : S) (r : ℕ) → perform_on w s (answer r t 0 []) ≡ record { reply = r; state = t; memory = w }
said w s t r = said_by_law (refusing (shapes_of w)) w s t r

pub said_reply : {S : Type 0} (w : Windows) (s t : S) (r : ℕ) → (perform_on w s (answer r t 0 [])).reply ≡ r
said_reply w s t r = ap (λ (o : Outcome _ Windows). o.reply) (said w s t r)

-- an answer that is done has room for all that it stores
pub answered : (j : ℕ → ℕ) (s t : State) (r a : ℕ) (vs : List ℕ) (w : Windows) → (perform both j s (answer r t a vs) w).reply ≡ 0 → worst j a (length vs) ≡ 0
unfolding perform
answered j s t r a vs w =
    on {A = Outcome State Windows} (λ o. o.reply ≡ 0 → worst j a (length vs) ≡ 0) (clear j a (length vs)) (λ e h. eqb-true _ _ e) (λ e h. h)

-- 1, 2 or 22, or the plan
pub guarded_is : {S : Type 0} (bad : S) (s : State) (w : Shapes) (p : Plan S) → admissible s ≡ true → unruled_by w ≡ 0 → guarded bad s w p ≡ p
unfolding guarded
guarded_is bad s w p a r = rw (a, r)

-- one that is done met none of them, by any judge
pub guarded_done : {S : Type 0} (j : ℕ → ℕ) (w : Windows) (bad : S) (s : State) (p : Plan S) → (perform both j bad (guarded bad s (shapes_of w) p) w).reply ≡ 0
    → (admissible s ≡ true) × (unruled_by (shapes_of w) ≡ 0)
unfolding guarded
guarded_done {S} j w bad s p =
    on (λ (q : Plan S). (perform both j bad q w).reply ≡ 0 → (admissible s ≡ true) × (unruled_by (shapes_of w) ≡ 0)) (admissible s)
    (λ a. on (λ (q : Plan S). (perform both j bad q w).reply ≡ 0 → (admissible s ≡ true) × (unruled_by (shapes_of w) ≡ 0)) (eqb (unruled_by (shapes_of w)) 0)
    (λ e h. (a, eqb-true _ _ e)) (λ e h. (a, sym (reply (unruled_by (shapes_of w))) ∙ h)))
    (λ a h. absurd (omega (arith, reply 1, h)))
  where
    reply : (r : ℕ) → (perform both j bad (answer r bad 0 []) w).reply ≡ r
    reply r = ap (λ (o : Outcome S Windows). o.reply) (said_by_law j w bad bad r)

-- by 2 or 22 memory is left
pub guarded_leaves : {S : Type 0} (j : ℕ → ℕ) (w : Windows) (bad : S) (s : State) (p : Plan S) → unruled_by (shapes_of w) ≢ 0 → (perform both j bad (guarded bad s (shapes_of w) p) w).memory ≡ w
unfolding guarded
guarded_leaves {S} j w bad s p n =
    rw (ne_eqb (unruled_by (shapes_of w)) 0 n) (on (λ (q : Plan S). (perform both j bad q w).memory ≡ w) (admissible s) (λ a. leaves (unruled_by (shapes_of w))) (λ a. leaves 1))
  where
    leaves : (r : ℕ) → (perform both j bad (answer r bad 0 []) w).memory ≡ w
    leaves r = ap (λ (o : Outcome S Windows). o.memory) (said_by_law j w bad bad r)

module _ {S : Type 0} (w : Windows) (bad : S) (s : State) (p : Plan S) where
  pub guarded_one : admissible s ≡ false → perform_on w bad (guarded bad s (shapes_of w) p) ≡ record { reply = 1; state = bad; memory = w }
  unfolding guarded
  guarded_one a = rw a (said w bad bad 1)

  pub guarded_unruled : admissible s ≡ true → unruled_by (shapes_of w) ≢ 0
      → perform_on w bad (guarded bad s (shapes_of w) p) ≡ record { reply = unruled_by (shapes_of w); state = bad; memory = w }
  unfolding guarded
  guarded_unruled a n = rw (a, ne_eqb (unruled_by (shapes_of w)) 0 n) (said w bad bad (unruled_by (shapes_of w)))

  pub guarded_open : admissible s ≡ true → unruled_by (shapes_of w) ≡ 0 → perform_on w bad (guarded bad s (shapes_of w) p) ≡ perform_on w bad p
  guarded_open a r = ap (λ (q : Plan S). perform_on w bad q) (guarded_is bad s (shapes_of w) p a r)

-- the step is its arm's plan
pub plan_open : (w : Shapes) (s : State) (op x y z : ℕ) → admissible s ≡ true → unruled_by w ≡ 0 → refusal_of (arm_of op) x y z ≡ 0
    → step_plan s w op x y z ≡ plan_of s (arm_of op) op x y z
unfolding step_plan from_three
plan_open w s op x y z a r e = guarded_is s s w (from_three s (arm_of op) op x y z) a r ∙ rw e

pub step_open : (w : Windows) (s : State) (op x y z : ℕ) → admissible s ≡ true → unruled_by (shapes_of w) ≡ 0 → refusal_of (arm_of op) x y z ≡ 0
    → step_of w s op x y z ≡ perform_on w s (plan_of s (arm_of op) op x y z)
unfolding step_of
step_open w s op x y z a r e = ap (λ (p : Plan State). perform_on w s p) (plan_open (shapes_of w) s op x y z a r e)

-- a step that is done met neither 1 nor 2 nor 22
pub step_done : (w : Windows) (s : State) (op x y z : ℕ) → (step_of w s op x y z).reply ≡ 0 → (admissible s ≡ true) × (unruled_by (shapes_of w) ≡ 0)
unfolding step_of step_plan
step_done w s op x y z = guarded_done (refusing (shapes_of w)) w s s (from_three s (arm_of op) op x y z)

-- ---- the windows' numbers

-- 0 says that both obey their rules and share nothing; 2 and 22 what they say
pub unruled_none : (w : Shapes) → unruled_by w ≡ 0 → (ruled w ≡ true) × (shares w ≡ false)
unfolding unruled_by
unruled_none w =
    on (λ (n : ℕ). n ≡ 0 → (ruled w ≡ true) × (shares w ≡ false)) (ruled w)
    (λ e. on (λ (n : ℕ). n ≡ 0 → (ruled w ≡ true) × (shares w ≡ false)) (shares w) (λ f h. absurd (omega arith)) (λ f h. (e, f)))
    (λ e h. absurd (omega arith))

pub none_unruled : (w : Shapes) → ruled w ≡ true → shares w ≡ false → unruled_by w ≡ 0
unfolding unruled_by
none_unruled w r n = rw (r, n)

pub unruled_is : (w : Shapes) → (unruled_by w ≡ 0) ⊎ ((unruled_by w ≡ 2) ⊎ (unruled_by w ≡ 22))
unfolding unruled_by
unruled_is w =
    on (λ (n : ℕ). (n ≡ 0) ⊎ ((n ≡ 2) ⊎ (n ≡ 22))) (ruled w)
    (λ e. on (λ (n : ℕ). (n ≡ 0) ⊎ ((n ≡ 2) ⊎ (n ≡ 22))) (shares w) (λ f. inr (inr refl)) (λ f. inl refl))
    (λ e. inr (inl refl))

pub unruled_two : (w : Shapes) → ruled w ≡ false → unruled_by w ≡ 2
unfolding unruled_by
unruled_two w r = rw r

pub unruled_shared : (w : Shapes) → ruled w ≡ true → shares w ≡ true → unruled_by w ≡ 22
unfolding unruled_by
unruled_shared w r n = rw (r, n)

pub shared_only : (w : Shapes) → unruled_by w ≡ 22 → (ruled w ≡ true) × (shares w ≡ true)
unfolding unruled_by
shared_only w =
    on (λ (n : ℕ). n ≡ 22 → (ruled w ≡ true) × (shares w ≡ true)) (ruled w)
    (λ e. on (λ (n : ℕ). n ≡ 22 → (ruled w ≡ true) × (shares w ≡ true)) (shares w) (λ f h. (e, f)) (λ f h. absurd (omega arith)))
    (λ e h. absurd (omega arith))

-- ---- the judge

-- the judge passes just what lies in the window
pub judged_inside : (w : Shapes) (a : ℕ) → refusing w a ≡ 0 → inside w a ≡ true
unfolding refusing
judged_inside w a = on (λ (n : ℕ). n ≡ 0 → inside w a ≡ true) (inside w a) (λ e f. e) (λ e f. absurd (omega arith))

pub inside_judged : (w : Shapes) (a : ℕ) → inside w a ≡ true → refusing w a ≡ 0
unfolding refusing
inside_judged w a e = rw e

pub sound : (w : Shapes) → Sound both (refusing w) w
unfolding both
sound w a = judged_inside w a

pub sound_at : (w : Windows) → Sound both (refusing (shapes_of w)) (both.shape w)
unfolding both
sound_at w = sound (shapes_of w)

pub mmix_sound : (s : State) (w : Shapes) (i : Item) → Sound both (mmix.judge s w i) w
unfolding mmix
mmix_sound s w i = sound w

-- ---- bytes

-- the distance back from an octabyte d places past the base, in octabytes; the sum may pass 2^61
distance : (c d : ℕ) → c < 2 ^ 61 → d < 2 ^ 57 → Dec (c + d < 2 ^ 61) → (8 * ((c + d) % 2 ^ 61) + (2 ^ 64 - 8 * c)) % 2 ^ 64 ≡ 8 * d
distance c d p q (yes l) = let e : (c + d) % 2 ^ 61 ≡ c + d = omega arith in rw e (omega arith)
distance c d p q (no l) = let e : (c + d) % 2 ^ 61 ≡ c + d - 2 ^ 61 = omega arith in rw e (omega arith)

pub offset_byte : (b i : ℕ) → b % 8 ≡ 0 → b < 2 ^ 64 → i < 2 ^ 60 → offset b (b + i) ≡ 8 * (i / 8)
unfolding offset octa
offset_byte b i al wo l =
    let e : (b + i) / 8 ≡ b / 8 + i / 8 = omega arith in
    let m : b % 2 ^ 64 ≡ 8 * (b / 8) = omega arith in
    rw (e, m) (distance (b / 8) (i / 8) (omega arith) (omega arith) (dec_lt (b / 8 + i / 8) (2 ^ 61)))

-- byte i of a window is byte i % 8 of the octabyte that its address names, which lies in it
pub byte_of : (w : Window) (i : ℕ) → Ruled (shape_of w) → i < length w.bytes → get_or w.bytes i 0 ≡ get_or (octa_bytes w (w.base + i)) (i % 8) 0
unfolding octa_bytes shape_of
byte_of w i r l =
    let n : length w.bytes < 2 ^ 60 = r.size_most in
    let e : offset w.base (w.base + i) ≡ 8 * (i / 8) = offset_byte w.base i r.base_aligned r.base_word (omega arith) in
    ap (λ (k : ℕ). get_or w.bytes k 0) (omega arith) ∙ sym (get_d_part w.bytes (offset w.base (w.base + i)) 8 (i % 8) (omega arith))

pub byte_has : (w : Window) (i : ℕ) → Ruled (shape_of w) → i < length w.bytes → has (shape_of w) (w.base + i) ≡ true
unfolding has shape_of
byte_has w i r l =
    let n : length w.bytes < 2 ^ 60 = r.size_most in
    let m : length w.bytes % 8 ≡ 0 = r.size_octas in
    let e : offset w.base (w.base + i) ≡ 8 * (i / 8) = offset_byte w.base i r.base_aligned r.base_word (omega arith) in
    le-leb (offset w.base (w.base + i) + 8) (length w.bytes) (omega arith)

-- one window of two
one_agrees : (F : ℕ → Type 0) (v w : Window) → Ruled (shape_of v) → shape_of v ≡ shape_of w
    → ((a : ℕ) → has (shape_of v) a ≡ true → Off F a → octa_bytes v a ≡ octa_bytes w a) → SameBytes F v w
one_agrees F v w r sh g = record { base_same = bs; length_same = ls; byte_same = λ i off. byte i off (lt_or_le i (length v.bytes)) }
  where
    bs : v.base ≡ w.base
    bs = unfold shape_of in (ap (λ (s : Shape). s.from) sh)

    ls : length v.bytes ≡ length w.bytes
    ls = unfold shape_of in (ap (λ (s : Shape). s.size) sh)

    byte : (i : ℕ) → Off F (v.base + i) → (i < length v.bytes) ⊎ (length v.bytes ≤ i) → get_or v.bytes i 0 ≡ get_or w.bytes i 0
    byte i off (inl l) =
        let rw' : Ruled (shape_of w) = subst Ruled sh r in
        byte_of v i r l ∙ ap (λ (bs : List ℕ). get_or bs (i % 8) 0) (g (v.base + i) (byte_has v i r l) off)
        ∙ ap (λ (b : ℕ). get_or (octa_bytes w (b + i)) (i % 8) 0) bs ∙ sym (byte_of w i rw' (omega (arith, ls)))
    byte i off (inr l) = get_or_eq_default v.bytes 0 l ∙ sym (get_or_eq_default w.bytes 0 (omega (arith, ls)))

-- an octabyte that lies in B, and one that does not
at_b : (m : Windows) (x : ℕ) → has (shape_of m.b) x ≡ true → octa_at m x ≡ octa_bytes m.b x
unfolding octa_at
at_b m x h = rw h

at_a : (m : Windows) (x : ℕ) → has (shape_of m.b) x ≡ false → octa_at m x ≡ octa_bytes m.a x
unfolding octa_at
at_a m x h = rw h

pub bytes_agree : (F : ℕ → Type 0) (v w : Windows) → unruled_by (shapes_of v) ≡ 0 → Agree both F v w → SameOutside F v w
unfolding both shapes_of
bytes_agree F v w u g =
    let r : (ruled (shapes_of v) ≡ true) × (shares (shapes_of v) ≡ false) = unruled_none (shapes_of v) u in
    let ra : Ruled (shape_of v.a) = ruled_a (shapes_of v) r.0 in
    let rb : Ruled (shape_of v.b) = ruled_b (shapes_of v) r.0 in
    let sa : shape_of v.a ≡ shape_of w.a = ap (λ (s : Shapes). s.a) g.shape_same in
    let sb : shape_of v.b ≡ shape_of w.b = ap (λ (s : Shapes). s.b) g.shape_same in
    record {
      in_a = one_agrees F v.a w.a ra sa (λ x h off.
          let n : has (shape_of v.b) x ≡ false = apart (shapes_of v) x ra rb r.1 h in
          sym (at_a v x n) ∙ g.rest_same x off ∙ at_a w x (ap (λ (s : Shape). has s x) (sym sb) ∙ n));
      in_b = one_agrees F v.b w.b rb sb (λ x h off.
          sym (at_b v x h) ∙ g.rest_same x off ∙ at_b w x (ap (λ (s : Shape). has s x) (sym sb) ∙ h));
    }
