-- A list of calls is a list of steps on the state that is held; and two lists of the same calls, the one beside the other.
use Rattle.model.proofs.Prelude.{ℕ, Bool, cond, ◌&&◌, head-eq_of_cons-eq, List, tail-eq_of_cons-eq, [], ◌++◌, ◌∷◌, ap, refl, subst, sym, ◌∙◌, ◌≡◌, arith, eqb}
use Rattle.model.proofs.Prelude.{ltb, length, Bytes, point_count, point_in, Ran, runs, step_on, both, shapes_of, Windows, admissible, Sized, run_of, Item, mmix}
use Rattle.model.proofs.Prelude.{unruled_by, runs_append}
use Rattle.claims.proofs.Prelude.{State, state_of, image_same, from_two, store_length, take_reply}
use Rattle.claims.specs.OneCall.{Held, image, struct, held_state, Look, take_point, read_context', encode_refused, Entry, on_image, run_image, on_lent, on_parts, run_parts, decode, encode, looking, tried_items, asked_by, asked, answered_by, MovedBy, counted_by, told_by, replied_by, NotEncoded, AsImage, AsStruct, LookMet, MeetsBy, Made}
use Rattle.claims.specs.Calls.{Chain, entries, replies, counts, last_held, last_window, items, answers, Moved, AllFit, Carried, ListsOfCalls}
use Rattle.claims.proofs.Tried.{InRange, item_range, Twins, twins_first, twins_rest, SameEnd, run_same}
use Rattle.claims.proofs.OneCall.{Intact, intact, intact_of, held_state_law, Counted, image_counted, parts_counted, After, after_call}
use Rattle.claims.proofs.Forms.{form, form_after, form_after_law}

-- ---- lists of items

fit_both : (is js : List Item) → AllFit (is ++ js) → AllFit is × AllFit js
unfolding AllFit
fit_both [] js f = (tt, f)
fit_both (i ∷ is) js f = ((f.0, (fit_both is js f.1).0), (fit_both is js f.1).1)

-- a list keeps what is in range there
runs_range : (is : List Item) (s : State) (w : Windows) → AllFit is → InRange s w → InRange (runs both mmix s w is).state (runs both mmix s w is).memory
unfolding runs AllFit
runs_range [] s w f h = h
runs_range (i ∷ is) s w f h = runs_range is (step_on both mmix s w i).state (step_on both mmix s w i).memory f.1 (item_range i s w f.0 h)

-- ---- a list of calls

-- what a call leaves is intact again
pub record Kept (s : State) (w : Windows) (is : List Item) (k : Held) (v : Windows) : Type 0 where
  pub state_is : held_state k ≡ (runs both mmix s w is).state
  pub whole : Intact k
  pub bytes : Bytes v

pub kept : (g : Held) (w : Windows) (e : Entry) (r n : ℕ) (k : Held) (v : Windows) → Intact g → Bytes w → AllFit (asked_by e r n)
    → After (held_state g) w e r n k v → Kept (held_state g) w (asked_by e r n) k v
kept g w e r n k v h b f a =
    let i = runs_range (asked_by e r n) (held_state g) w f (record { sized = h.sized; words = h.words; bytes = b }) in
    record {
      state_is = held_state_law k _ a.held_is i.sized i.words;
      whole = intact_of k _ a.held_is i.sized i.words;
      bytes = subst Bytes (sym a.window_is) i.bytes;
    }

-- what a list ends in
pub record Ended (g : Held) (w : Windows) (cs : List Made) (r : Ran State Windows) : Type 0 where
  pub carried : Carried g w cs r
  pub whole : Intact (last_held g cs)
  pub bytes : Bytes (last_window w cs)

pub chain_ended : (g : Held) (w : Windows) (cs : List Made) → Intact g → Bytes w → AllFit (items cs) → Chain g w cs
    → Ended g w cs (runs both mmix (held_state g) w (items cs))
unfolding Chain items answers Moved last_held last_window runs
chain_ended g w [] h b f c = record {
  carried = record { answers_are = refl; others_are = tt; held_is = h.back; state_is = refl; window_is = refl };
  whole = h;
  bytes = b;
}
chain_ended g w (c ∷ cs) h b f m =
    let fs = fit_both (asked c) (items cs) f in
    let n : After (held_state g) w c.entry c.reply c.count c.held c.window = after_call g w c.entry c.reply c.count c.held c.window h m.0 in
    let k : Kept (held_state g) w (asked c) c.held c.window = kept g w c.entry c.reply c.count c.held c.window h b fs.0 n in
    let o : Ran State Windows = runs both mmix (held_state g) w (asked c) in
    let p : Ran State Windows = runs both mmix o.state o.memory (items cs) in
    let t : Ended c.held c.window cs p
    = subst (λ (s : State). Ended c.held c.window cs (runs both mmix s o.memory (items cs))) k.state_is
    (subst (λ (v : Windows). Ended c.held c.window cs (runs both mmix (held_state c.held) v (items cs))) n.window_is
    (chain_ended c.held c.window cs k.whole k.bytes fs.1 m.1)) in
    subst (Ended g w (c ∷ cs)) (sym (runs_append both mmix (asked c) (items cs) (held_state g) w)) (record {
      carried = record {
        answers_are = ap (λ (a : List ℕ). a ++ answers cs) n.answers_are ∙ ap (λ (a : List ℕ). o.answers ++ a) t.carried.answers_are;
        others_are = (n.moved, t.carried.others_are);
        held_is = t.carried.held_is;
        state_is = t.carried.state_is;
        window_is = t.carried.window_is;
      };
      whole = t.whole;
      bytes = t.bytes;
    })

pub lists_of_calls : ListsOfCalls
lists_of_calls g w cs h b f c = (chain_ended g w cs (intact g h) b f c).carried

-- ---- two lists of the same calls: reply by reply the same, where the first's items answer alike in both

-- what mmix_take is judged by
took_same : (s t : List ℕ) (name : ℕ) (l m : List ℕ) (v u : Windows) → length s ≡ length t → length l ≡ length m → admissible (state_of l) ≡ admissible (state_of m) → shapes_of v ≡ shapes_of u
    → take_reply s name (point_in l v.a.base v.b.base v.a.bytes v.b.bytes) ≡ take_reply t name (point_in m u.a.base u.b.base u.a.bytes u.b.bytes)
unfolding take_reply from_two
took_same s t name l m v u n e a h =
    λ i. cond (image_same m l e i && a i) (cond (eqb (unruled_by (h i)) 0) (cond (ltb (n i) store_length) 26 (cond (ltb name point_count) 0 27)) (unruled_by (h i))) 1

not_encoded : (b : ℕ) (s : State) (r : ℕ) → NotEncoded b s r → r ≡ 1
not_encoded b s r c = c.contract.reply_is ∙ ap (λ (q : Bool). cond q 0 1) c.room

-- one call in each, of one function: reply, count and what was asked for are the same where the first's items answer alike in both
pub record SameCall (e : Entry) (r n q m : ℕ) : Type 0 where
  pub reply_same : replied_by e r ≡ replied_by e q
  pub count_same : counted_by e n ≡ counted_by e m
  pub items_same : asked_by e r n ≡ asked_by e q m

ran_same : (grant : ℕ) (s : State) (v : Windows) (t : State) (u : Windows) (r n q m : ℕ) → Sized s → Counted s v grant r n → Counted t u grant q m
    → Twins s v t u (tried_items r n) → (r ≡ q) × (n ≡ m)
ran_same grant s v t u r n q m z c d h =
    let k : SameEnd (run_of v s grant) (run_of u t grant) = run_same grant s v t u z (rw (c.reply_is, c.count_is) at h) in
    (c.reply_is ∙ k.reply_same ∙ sym d.reply_is, c.count_is ∙ k.count_same ∙ sym d.count_is)

-- a list of one
one : {r q : ℕ} → r ≡ q → r ∷ [] ≡ q ∷ []
one e = ap (λ (p : ℕ). p ∷ []) e

look_met : (l : Look) (g : Held) (w : Windows) (r n : ℕ) (k : Held) (v : Windows) → MeetsBy g w (looking l) r n k v → LookMet g w l r
unfolding MeetsBy
look_met l g w r n k v c = c.0

-- one that looks: taking is judged by the state, the windows' shapes and the store's length; encoding by the length
same_look : (l : Look) (g k : Held) (v u : Windows) (r q : ℕ) → admissible (held_state g) ≡ admissible (held_state k) → shapes_of v ≡ shapes_of u
    → LookMet g v l r → LookMet k u l q → told_by l r ≡ told_by l q
unfolding LookMet AsImage AsStruct told_by held_state
same_look (take_point b name n) (image l) (image m) v u r q a e c d =
    one (c.1.contract.reply_is ∙ took_same c.1.before d.1.before name l m v u (c.1.long ∙ sym d.1.long) (c.0 ∙ sym d.0) a e ∙ sym d.1.contract.reply_is)
same_look (take_point b name n) (image l) (struct t) v u r q a e c d = absurd d
same_look (take_point b name n) (struct s) k v u r q a e c d = absurd c
same_look (read_context' p) g k v u r q a e c d = refl
same_look (encode_refused b) (image l) k v u r q a e c d = absurd c
same_look (encode_refused b) (struct s) (image m) v u r q a e c d = absurd d
same_look (encode_refused b) (struct s) (struct t) v u r q a e c d = one (not_encoded b s r c ∙ sym (not_encoded b t q d))

pub same_call : (e : Entry) (g k i j : Held) (v u w x : Windows) (r n q m : ℕ) → Intact g → Intact k → MeetsBy g v e r n i w → MeetsBy k u e q m j x
    → Twins (held_state g) v (held_state k) u (asked_by e r n) → SameCall e r n q m
unfolding asked_by answered_by MovedBy counted_by replied_by Twins runs
same_call (on_image b f) g k i j v u w x r n q m hg hk c d h =
    let a = after_call g v (on_image b f) r n i w hg c in
    let p = after_call k u (on_image b f) q m j x hk d in
    record { reply_same = one (head-eq_of_cons-eq a.answers_are ∙ h.1 ∙ sym (head-eq_of_cons-eq p.answers_are)); count_same = refl; items_same = refl }
same_call (run_image b grant) g k i j v u w x r n q m hg hk c d h =
    let e = ran_same grant (held_state g) v (held_state k) u r n q m hg.sized (image_counted g v b grant r n i w hg c) (image_counted k u b grant q m j x hk d) h in
    record { reply_same = one e.0; count_same = ap (λ (p : ℕ). p ∷ []) e.1; items_same = λ p. tried_items (e.0 p) (e.1 p) }
same_call (on_lent op y z o) g k i j v u w x r n q m hg hk c d h =
    let a = after_call g v (on_lent op y z o) r n i w hg c in
    let b = after_call k u (on_lent op y z o) q m j x hk d in
    record { reply_same = one (head-eq_of_cons-eq a.answers_are ∙ h.1 ∙ sym (head-eq_of_cons-eq b.answers_are)); count_same = refl; items_same = refl }
same_call (on_parts f) g k i j v u w x r n q m hg hk c d h =
    let a = after_call g v (on_parts f) r n i w hg c in
    let b = after_call k u (on_parts f) q m j x hk d in
    record { reply_same = one (head-eq_of_cons-eq a.answers_are ∙ h.1 ∙ sym (head-eq_of_cons-eq b.answers_are)); count_same = refl; items_same = refl }
same_call (run_parts grant) g k i j v u w x r n q m hg hk c d h =
    let e = ran_same grant (held_state g) v (held_state k) u r n q m hg.sized (parts_counted g v grant r n i w c) (parts_counted k u grant q m j x d) h in
    record { reply_same = one e.0; count_same = ap (λ (p : ℕ). p ∷ []) e.1; items_same = λ p. tried_items (e.0 p) (e.1 p) }
same_call decode g k i j v u w x r n q m hg hk c d h =
    let a = after_call g v decode r n i w hg c in
    let b = after_call k u decode q m j x hk d in
    record { reply_same = one (a.moved ∙ sym b.moved); count_same = refl; items_same = refl }
same_call (encode b) g k i j v u w x r n q m hg hk c d h =
    let a = after_call g v (encode b) r n i w hg c in
    let p = after_call k u (encode b) q m j x hk d in
    record { reply_same = one (a.moved ∙ sym p.moved); count_same = refl; items_same = refl }
same_call (looking l) g k i j v u w x r n q m hg hk c d h =
    record { reply_same = same_look l g k v u r q h.0 h.1 (look_met l g v r n i w c) (look_met l k u q m j x d); count_same = refl; items_same = refl }

pub twins_at : (is : List Item) (s p : State) (v w : Windows) (t q : State) (u x : Windows) → p ≡ s → w ≡ v → q ≡ t → x ≡ u → Twins s v t u is → Twins p w q x is
twins_at is s p v w t q u x a b c d h =
    subst (λ (k : State). Twins k w q x is) (sym a) (subst (λ (k : Windows). Twins s k q x is) (sym b)
    (subst (λ (k : State). Twins s v k x is) (sym c) (subst (λ (k : Windows). Twins s v t k is) (sym d) h)))

-- the lists
pub record SameCalls (cs ds : List Made) : Type 0 where
  pub items_same : items cs ≡ items ds
  pub replies_same : replies cs ≡ replies ds
  pub counts_same : counts cs ≡ counts ds

pub same_calls : (g k : Held) (v u : Windows) (cs ds : List Made) → Intact g → Intact k → Bytes v → Bytes u → AllFit (items cs) → entries ds ≡ entries cs
    → Chain g v cs → Chain k u ds → Twins (held_state g) v (held_state k) u (items cs) → SameCalls cs ds
unfolding Chain entries items replies counts
same_calls g k v u [] [] hg hk bv bu f e c d h = record { items_same = refl; replies_same = refl; counts_same = refl }
same_calls g k v u [] (d ∷ ds) hg hk bv bu f e m n h = absurd (omega (arith, ap length e))
same_calls g k v u (c ∷ cs) [] hg hk bv bu f e m n h = absurd (omega (arith, ap length e))
same_calls g k v u (c ∷ cs) (d ∷ ds) hg hk bv bu f e m n h =
    let fs = fit_both (asked c) (items cs) f in
    let n0 : MeetsBy k u c.entry d.reply d.count d.held d.window
    = subst (λ (a : Entry). MeetsBy k u a d.reply d.count d.held d.window) (head-eq_of_cons-eq e) n.0 in
    let one : SameCall c.entry c.reply c.count d.reply d.count
    = same_call c.entry g k c.held d.held v u c.window d.window c.reply c.count d.reply d.count hg hk m.0 n0
    (twins_first (asked c) (items cs) (held_state g) v (held_state k) u h) in
    let p = after_call g v c.entry c.reply c.count c.held c.window hg m.0 in
    let q = after_call k u c.entry d.reply d.count d.held d.window hk n0 in
    let fd : AllFit (asked_by c.entry d.reply d.count) = subst AllFit one.items_same fs.0 in
    let kc = kept g v c.entry c.reply c.count c.held c.window hg bv fs.0 p in
    let kd = kept k u c.entry d.reply d.count d.held d.window hk bu fd q in
    let back : asked_by c.entry d.reply d.count ≡ asked c = sym one.items_same in
    let t : Twins (held_state c.held) c.window (held_state d.held) d.window (items cs)
    = twins_at (items cs) _ _ _ _ _ _ _ _ kc.state_is p.window_is
    (kd.state_is ∙ ap (λ (is : List Item). (runs both mmix (held_state k) u is).state) back) (q.window_is ∙ ap (λ (is : List Item). (runs both mmix (held_state k) u is).memory) back)
    (twins_rest (asked c) (items cs) (held_state g) v (held_state k) u h) in
    let r : SameCalls cs ds = same_calls c.held d.held c.window d.window cs ds kc.whole kd.whole kc.bytes kd.bytes fs.1 (tail-eq_of_cons-eq e) m.1 n.1 t in
    let ce : c.entry ≡ d.entry = sym (head-eq_of_cons-eq e) in
    record {
      items_same = ap (λ (is : List Item). is ++ items cs) (one.items_same ∙ ap (λ (a : Entry). asked_by a d.reply d.count) ce) ∙ ap (λ (is : List Item). asked d ++ is) r.items_same;
      replies_same = ap (λ (l : List ℕ). l ++ replies cs) (one.reply_same ∙ ap (λ (a : Entry). replied_by a d.reply) ce)
          ∙ ap (λ (l : List ℕ). replied_by d.entry d.reply ++ l) r.replies_same;
      counts_same = ap (λ (l : List ℕ). l ++ counts cs) (one.count_same ∙ ap (λ (a : Entry). counted_by a d.count) ce)
          ∙ ap (λ (l : List ℕ). counted_by d.entry d.count ++ l) r.counts_same;
    }

-- what is held at the end: a struct, or an image of which length
unfoldable last_form : ℕ → List Entry → ℕ
last_form n [] = n
last_form n (e ∷ es) = last_form (form_after n e) es

last_form_law : (g : Held) (w : Windows) (cs : List Made) → Intact g → Bytes w → AllFit (items cs) → Chain g w cs → form (last_held g cs) ≡ last_form (form g) (entries cs)
unfolding Chain items last_held last_form entries
last_form_law g w [] h b f c = refl
last_form_law g w (c ∷ cs) h b f m =
    let fs = fit_both (asked c) (items cs) f in
    let k : Kept (held_state g) w (asked c) c.held c.window
    = kept g w c.entry c.reply c.count c.held c.window h b fs.0 (after_call g w c.entry c.reply c.count c.held c.window h m.0) in
    last_form_law c.held c.window cs k.whole k.bytes fs.1 m.1
    ∙ ap (λ (n : ℕ). last_form n (entries cs)) (form_after_law g w c.entry c.reply c.count c.held c.window h.sized m.0)

pub same_form : (g k : Held) (v w : Windows) (cs ds : List Made) → Intact g → Intact k → Bytes v → Bytes w → AllFit (items cs) → AllFit (items ds)
    → entries ds ≡ entries cs → Chain g v cs → Chain k w ds → form g ≡ form k → form (last_held g cs) ≡ form (last_held k ds)
same_form g k v w cs ds hg hk bv bw fc fd e c d f =
    last_form_law g v cs hg bv fc c ∙ ap (λ (n : ℕ). last_form n (entries cs)) f ∙ ap (last_form (form k)) (sym e) ∙ sym (last_form_law k w ds hk bw fd d)
