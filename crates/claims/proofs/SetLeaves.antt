-- What each number of a set leaves of an image's bytes, and of a struct.
use Rattle.model.proofs.Prelude.{ℕ, ◌<◌, Bool, false, true, List, inl, inr, ⊎_elim, ap, refl, subst, sym, ◌∙◌, ◌≡◌, arith, get_or, Sized}
use Rattle.claims.proofs.Prelude.{State, image_as, is_image, state_of, if_other, of_image, keeps_length, round_trips, SetImage}
use Rattle.sets.specs.Sets.{Pair, set_says, put_set_of, PutSet}
use Rattle.sets.specs.SetMeant.{SetLeaves}
use Rattle.sets.proofs.SetLeaves.{sets_leave, sets_keep}
use Rattle.claims.specs.CallsLeave.{SetCallLeaves}
use Rattle.claims.proofs.ImageLeaves.{halt_same, halted_same}

pub by_state_set : (s : State) (ps : List Pair) (r place : ℕ) (t : State) → PutSet s ps r place t → SetLeaves s ps (set_says r place t)
by_state_set s ps r place t g = subst (SetLeaves s ps) (sym (λ i. set_says (g.reply_is i) (g.place_is i) (g.state_is i))) (sets_leave s ps)

module _ (l : List ℕ) (ps : List Pair) (r place : ℕ) (m : List ℕ) (g : SetImage l ps r place m) where
  on_image : is_image l ≡ true → ((i : ℕ) → get_or l i 0 < 256) → SetCallLeaves l ps r place m
  on_image n b =
      let s : State = state_of l in
      let t : State = (put_set_of s ps).state in
      let back : image_as l s ≡ l = keeps_length.as_state l n b in
      let e : m ≡ image_as l t = of_image l n _ _ _ g.image_is in
      let k : SetLeaves s ps (set_says r place t) =
      subst (SetLeaves s ps) (sym (λ i. set_says (of_image l n _ _ _ g.reply_is i) (of_image l n _ _ _ g.place_is i) t)) (sets_leave s ps) in
      let zt : Sized t = sets_keep.sized s ps (round_trips.state_sized l) in
      record {
        among = k.among;
        whole = ⊎_elim (λ q. let h = k.one q in (h.1, e ∙ ap (image_as l) h.2 ∙ back)) (λ q. let h = k.thirty q in (h.2, e ∙ ap (image_as l) h.3 ∙ back));
        seven_to_eleven = λ a z. let h = k.seven_to_eleven a z in (h.0, halted_same l n back m t e h.1);
        done = λ q. let h = k.done q in (h.0, halt_same l n back m t e zt h.1);
      }

  on_other : is_image l ≡ false → SetCallLeaves l ps r place m
  on_other d =
      let e : r ≡ 1 = g.reply_is ∙ sym (if_other l d _ _) in
      record {
        among = inr (inl e);
        whole = λ q. (g.place_is ∙ sym (if_other l d _ _), g.image_is ∙ sym (if_other l d _ _));
        seven_to_eleven = λ a z. absurd (omega arith);
        done = λ q. absurd (omega arith);
      }

pub by_set : (l : List ℕ) (ps : List Pair) (r place : ℕ) (m : List ℕ) → ((i : ℕ) → get_or l i 0 < 256) → SetImage l ps r place m → SetCallLeaves l ps r place m
by_set l ps r place m b g = go (is_image l) refl
  where
    go : (t : Bool) → is_image l ≡ t → SetCallLeaves l ps r place m
    go true e = on_image l ps r place m g e b
    go false e = on_other l ps r place m g e
