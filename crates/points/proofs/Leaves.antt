-- Which numbers there are, and that a refusal leaves every byte.
use Rattle.model.proofs.Prelude.{ℕ, ◌&&◌, List, inl, inr, ◌⊎◌, ⊎_elim, refl, ◌∙◌, ◌≡◌, eqb, ltb, length, ne_eqb, octas_in, Point, point_count, Shapes, admissible}
use Rattle.model.proofs.Prelude.{unruled_by, on, unruled_is}
use Rattle.image.specs.Image.{is_image, has_room, state_of}
use Rattle.points.specs.Store.{store_length, mask_in, suits, is_taken, room_of, shapes_in, from_two, take_reply, room_reply, back_reply, Took, GoneBack}
use Rattle.points.specs.Returns.{PointsLeave}

-- what a later test answers is 0, 1, 27 or 28
abbrev Room : ℕ → Type 0
Room n = (n ≡ 0) ⊎ ((n ≡ 1) ⊎ ((n ≡ 27) ⊎ (n ≡ 28)))

abbrev Back : ℕ → Type 0
Back n = (n ≡ 0) ⊎ ((n ≡ 1) ⊎ ((n ≡ 2) ⊎ ((n ≡ 22) ⊎ ((n ≡ 26) ⊎ ((n ≡ 27) ⊎ (n ≡ 28))))))

abbrev Take : ℕ → Type 0
Take n = (n ≡ 0) ⊎ ((n ≡ 1) ⊎ ((n ≡ 2) ⊎ ((n ≡ 22) ⊎ ((n ≡ 26) ⊎ (n ≡ 27)))))

room_is : (r : List ℕ) (p : Point) → Room (room_reply r p)
unfolding room_reply
room_is r p =
    on Room (is_taken r)
    (λ _. on Room (suits r p.base_a p.base_b (octas_in p.a) (octas_in p.b))
    (λ _. on Room (has_room p.image (mask_in r)) (λ _. inl refl) (λ _. inr (inl refl)))
    (λ _. inr (inr (inr refl))))
    (λ _. inr (inr (inl refl)))

two_take : (s : List ℕ) (k : ℕ) (w : Shapes) → Take (from_two s k w 0)
unfolding from_two
two_take s k w =
    on Take (eqb (unruled_by w) 0)
    (λ _. on Take (ltb (length s) store_length) (λ _. inr (inr (inr (inr (inl refl)))))
    (λ _. on Take (ltb k point_count) (λ _. inl refl) (λ _. inr (inr (inr (inr (inr refl)))))))
    (λ _. ⊎_elim (λ e. inl e) (⊎_elim (λ e. inr (inr (inl e))) (λ e. inr (inr (inr (inl e))))) (unruled_is w))

two_back : (s : List ℕ) (k : ℕ) (w : Shapes) (n : ℕ) → Room n → Back (from_two s k w n)
unfolding from_two
two_back s k w n h =
    on Back (eqb (unruled_by w) 0)
    (λ _. on Back (ltb (length s) store_length) (λ _. inr (inr (inr (inr (inl refl)))))
    (λ _. on Back (ltb k point_count)
    (λ _. ⊎_elim (λ e. inl e)
    (⊎_elim (λ e. inr (inl e)) (⊎_elim (λ e. inr (inr (inr (inr (inr (inl e)))))) (λ e. inr (inr (inr (inr (inr (inr e)))))))) h)
    (λ _. inr (inr (inr (inr (inr (inl refl))))))))
    (λ _. ⊎_elim (λ e. inl e) (⊎_elim (λ e. inr (inr (inl e))) (λ e. inr (inr (inr (inl e))))) (unruled_is w))

take_is : (s : List ℕ) (k : ℕ) (p : Point) → Take (take_reply s k p)
unfolding take_reply
take_is s k p = on Take (is_image p.image && admissible (state_of p.image)) (λ _. two_take s k (shapes_in p)) (λ _. inr (inl refl))

back_is : (s : List ℕ) (k : ℕ) (p : Point) → Back (back_reply s k p)
unfolding back_reply
back_is s k p = on Back (is_image p.image) (λ _. two_back s k (shapes_in p) (room_reply (room_of s k) p) (room_is (room_of s k) p)) (λ _. inr (inl refl))

take_refused : (s : List ℕ) (k : ℕ) (p : Point) (n : ℕ) (t : List ℕ) → Took s k p n t → (n ≡ 0 → ⊥) → t ≡ s
take_refused s k p n t g d = g.store_is ∙ rw (ne_eqb (take_reply s k p) 0 (λ z. d (g.reply_is ∙ z)))

back_refused : (s : List ℕ) (k : ℕ) (p : Point) (n : ℕ) (q : Point) → GoneBack s k p n q → (n ≡ 0 → ⊥) → q ≡ p
back_refused s k p n q g d = g.point_is ∙ rw (ne_eqb (back_reply s k p) 0 (λ z. d (g.reply_is ∙ z)))

pub points_leave : PointsLeave
points_leave = record {
  take_among = λ s k p n t g. rw g.reply_is (take_is s k p);
  take_refused = take_refused;
  back_among = λ s k p n q g. rw g.reply_is (back_is s k p);
  back_refused = back_refused;
}
